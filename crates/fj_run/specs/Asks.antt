-- What a body asks as a certain task.
use Rattle.std.specs.Prelude.{ℕ, ◌≡◌, ⊤, true, Option, Some}
use Rattle.fj_rules.specs.declared.kind.Kind.TheVariants.{Completer}
use Rattle.fj_body.specs.declared.body.Ask.{Ask}
use Rattle.fj_body.specs.declared.body.Ask.TheVariants.{Fork, Add}

-- it adds to this task alone, and forks under it alone, completers that have no pending count and relay a code
abbrev pub AsksUnder : {B K O : Type 0} → Option ℕ → Ask B K O → Type 0
AsksUnder own (Add c n) = own ≡ Some c
AsksUnder own (Fork body kind) = kind ≡ Completer true 0 own
AsksUnder own _ = ⊤
