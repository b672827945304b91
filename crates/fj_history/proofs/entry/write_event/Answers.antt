use Rattle.std.proofs.Common.{◌≡◌, List, ◌∷◌, ◌++◌, ℕ, refl, arith}
use Rattle.std.proofs.lemmas.Grind.{common_steps}
use Rattle.fj_rules.specs.declared.kind.Kind.{Kind}
use Rattle.fj_rules.specs.declared.kind.Kind.TheVariants as kind
use Rattle.fj_lines.specs.Words.{joined}
use Rattle.fj_history.specs.Entries.{kind_words}
use Rattle.fj_history.proofs.entry.write_event.Goals as goal

-- a word before those of a kind
kind_behind : (word : List ℕ) (k : Kind) → joined (word ∷ kind_words k) ≡ word ++ 32 ∷ joined (kind_words k)
kind_behind word kind.Plain = refl
kind_behind word (kind.Completer relay count parent) = refl

pub returns-in_ok-write-in-Acc : goal.returns-in_ok-write-in-Acc
returns-in_ok-write-in-Acc g c = grind (arith, common_steps, kind_behind)

pub returns-in_ok-write-in-Make : goal.returns-in_ok-write-in-Make
returns-in_ok-write-in-Make g c = grind (arith, common_steps, kind_behind)
