-- An outcome that was told under one of several tickets.
use Rattle.std.specs.Prelude.{ℕ, ◌≡◌, List, Some, slice_get}
use Rattle.fj_body.specs.declared.outcomes.Outcome.{Outcome}
use Rattle.fj_calls.specs.Cores.{CoreState}
use Rattle.fj_guarded.specs.Continuing.{IsToldNow}

-- in the last core of the log the ticket at this index is booked for a task, which has the status of the outcome
abbrev pub IsToldAt : {B K O : Type 0} → List (CoreState B K O) → List ℕ → ℕ → Outcome B K O → Type 0
IsToldAt log tickets place outcome = (ticket : ℕ) × (slice_get tickets place ≡ Some ticket) × IsToldNow log ticket outcome
