-- The answer of a run.
use Rattle.std.specs.Prelude.{Result, Ok, Err}
use Rattle.fj_rules.specs.declared.refusal.Refusal.{Refusal}
use Rattle.fj_rules.specs.declared.refusal.Refusal.TheVariants.{LogFull, OutOfMemory}
use Rattle.fj_body.specs.declared.outcomes.Outcome.{Outcome}

module _ {B K O : Type 0} where
  -- LogFull stays, any other refusal becomes OutOfMemory
  abbrev pub told_of : Result (Outcome B K O) Refusal → Result (Outcome B K O) Refusal
  told_of (Ok outcome) = Ok outcome
  told_of (Err LogFull) = Err LogFull
  told_of (Err _) = Err OutOfMemory
