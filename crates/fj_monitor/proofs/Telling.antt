-- What a caller has seen told stands in the last moment that it has seen.
use Rattle.std.proofs.Common.{ℕ, ◌<◌, List, length, Option, Some, None}
use Rattle.std.specs.Prelude.{IfOk, IfSome, Result, Ok, Err}
use Rattle.std.proofs.lemmas.Option.{slice_get_within}
use Rattle.fj_rules.specs.declared.refusal.Refusal.{Refusal}
use Rattle.fj_body.specs.declared.outcomes.Outcome.{Outcome}
use Rattle.fj_calls.specs.Cores.{CollectsTicket, CoreState}
use Rattle.fj_guarded.specs.Asked.{CollectsAt}
use Rattle.fj_guarded.specs.Continuing.{EndsWith, IsToldNow}
use Rattle.fj_guarded.proofs.GoesOn.{seen_told}
use Rattle.fj_monitor.specs.Telling.{IsToldAt}

module _ {B K O : Type 0} where
  -- if there was one to tell
  pub told_if : (log : List (CoreState B K O)) (ticket : ℕ) (answer : Option (Result (Outcome B K O) Refusal)) → EndsWith log (λ old new. CollectsTicket old ticket answer new)
      → IfSome answer (λ a. IfOk a (λ outcome. IsToldNow log ticket outcome))
  told_if log ticket (Some answer) seen = seen_told log ticket answer seen
  told_if log ticket None seen = tt

  -- the first of several
  pub told_at : (log : List (CoreState B K O)) (tickets : List ℕ) (place : ℕ) (answer : Result (Outcome B K O) Refusal) → EndsWith log (λ old new. CollectsAt tickets old place answer new)
      → IfOk answer (λ outcome. IsToldAt log tickets place outcome)
  told_at log tickets place (Ok outcome) (before, old, new, is, told) =
      (told.ticket, told.at, seen_told log told.ticket (Ok outcome) (before, old, new, is, told.collects))
  told_at log tickets place (Err refusal) seen = tt

  -- there is a ticket at its place
  pub told_within : (log : List (CoreState B K O)) (tickets : List ℕ) (place : ℕ) (answer : Result (Outcome B K O) Refusal) → EndsWith log (λ old new. CollectsAt tickets old place answer new)
      → place < length tickets
  told_within log tickets place answer (before, old, new, is, told) = slice_get_within tickets place told.ticket told.at
