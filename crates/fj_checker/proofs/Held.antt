-- Whose hand has a completion action.
use Rattle.std.proofs.Common.{ℕ, ◌≡◌, ◌<◌, ◌≤◌, ◌+◌, List, [], Some, arith, ⊎_elim, subst}
use Rattle.std.proofs.lemmas.Bool.{cases_eq}
use Rattle.fj_rules.specs.declared.event.Event.{Event}
use Rattle.fj_rules.specs.Bounds.{Pool}
use Rattle.fj_rules.specs.Hooks.{hand}
use Rattle.fj_rules.specs.Allowed.{AllowedFrom}
use Rattle.fj_rules.proofs.Completers.Hands.{hand_there}

-- none of the workers below has it in the hand
abbrev pub NoneBelow : List Event → ℕ → ℕ → Type 0
NoneBelow h c n = (v : ℕ) → v < n → hand h v ≡ Some c → ⊥

-- a hand is a worker's, so then none has it
pub none_at_all : (pool : Pool) (h : List Event) (c n : ℕ) → AllowedFrom pool [] h → pool.limits.workers ≤ n → NoneBelow h c n → (v : ℕ) → hand h v ≡ Some c → ⊥
none_at_all pool h c n so all none v is = let there = hand_there pool h v c so is in none v (omega (arith, there, all)) is
