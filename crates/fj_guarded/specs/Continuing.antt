-- A core that continues another one: nothing that has happened is undone.
use Rattle.std.specs.Prelude.{ℕ, ◌≡◌, false, All, List, [], ◌∷◌, ◌++◌, Some}
use mathlib.Core.List.{IsPrefix}
use Rattle.fj_rules.specs.declared.event.Event.{Event}
use Rattle.fj_rules.specs.Statuses.{status}
use Rattle.fj_body.specs.declared.outcomes.Outcome.{Outcome}
use Rattle.fj_body.specs.Results.{status_in}
use Rattle.fj_body.specs.Stores.{StoreState}
use Rattle.fj_calls.specs.declared.booking.Booking.{Booking}
use Rattle.fj_calls.specs.Booked.{booked_under}
use Rattle.fj_calls.specs.Cores.{CoreState}

module _ {B K O : Type 0} where
  -- events were appended, and a store that was stuck is stuck
  pub record ContinuesStore (old new : StoreState B K O) : Type 0 where
    pub pool : new.past.pool ≡ old.past.pool
    pub events : IsPrefix old.past.events new.past.events
    pub stuck : new.stuck ≡ false → old.stuck ≡ false

  -- the same; bookings and sealed parts were appended, and a closing number stays
  pub record Continues (old new : CoreState B K O) : Type 0 where
    pub store : ContinuesStore old.store new.store
    pub bookings : IsPrefix old.bookings new.bookings
    pub parts : IsPrefix (old.handed ++ old.parts) (new.handed ++ new.parts)
    pub number : (n : ℕ) → old.closing.number ≡ Some n → new.closing.number ≡ Some n

  -- it continues all of these
  abbrev pub ContinuesAll : List (CoreState B K O) → CoreState B K O → Type 0
  ContinuesAll earlier core = All (λ c. Continues c core) earlier

  -- ---- a log of cores

  -- the last one
  abbrev pub IsNow : List (CoreState B K O) → CoreState B K O → Type 0
  IsNow log core = (before : List (CoreState B K O)) × (log ≡ before ++ core ∷ [])

  -- the last one, which continues all before it
  pub record EndsIn (log : List (CoreState B K O)) (core : CoreState B K O) : Type 0 where
    pub now : IsNow log core
    pub all : ContinuesAll log core

  -- the last two, between which nothing but this happened
  abbrev pub EndsWith : List (CoreState B K O) → (CoreState B K O → CoreState B K O → Type 0) → Type 0
  EndsWith log Happens = (before : List (CoreState B K O)) × (old : CoreState B K O) × (new : CoreState B K O) × (log ≡ before ++ old ∷ new ∷ []) × Happens old new

  -- the ticket is booked for a task, which has the status of the outcome
  abbrev pub IsToldIn : List Booking → List Event → ℕ → Outcome B K O → Type 0
  IsToldIn bookings h ticket outcome = (t : ℕ) × (booked_under bookings ticket ≡ Some t) × (status h t ≡ status_in outcome)

  -- the same by a core
  abbrev pub IsTold : CoreState B K O → ℕ → Outcome B K O → Type 0
  IsTold core ticket outcome = IsToldIn core.bookings core.store.past.events ticket outcome

  -- the same by the last core of a log
  abbrev pub IsToldNow : List (CoreState B K O) → ℕ → Outcome B K O → Type 0
  IsToldNow log ticket outcome = (core : CoreState B K O) × IsNow log core × IsTold core ticket outcome
