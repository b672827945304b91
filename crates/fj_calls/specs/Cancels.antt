-- A submission is cancelled from outside.
use Rattle.std.specs.Prelude.{ℕ, ◌≡◌, Bool, true, false, Option, Some, None, Result, Ok, Err}
use Rattle.fj_rules.specs.declared.refusal.Refusal.{Refusal}
use Rattle.fj_rules.specs.declared.refusal.Refusal.TheVariants.{LogFull, Unknown}
use Rattle.fj_rules.specs.declared.said.Said.TheVariants as says
use Rattle.fj_rules.specs.declared.step.Step.TheVariants.{Cancel}
use Rattle.fj_body.specs.Asking.{Drops}
use Rattle.fj_body.specs.Choosing.{Refuses}
use Rattle.fj_body.specs.Stores.{StoreState}
use Rattle.fj_calls.specs.Booked.{booked_under}
use Rattle.fj_calls.specs.Cores.{ChangesStore, CoreState}

module _ {B K O : Type 0} where
  -- the step Cancel is made of this task: it is cancelled now or was before, or had ended otherwise; or the step is refused
  abbrev pub CancelsTask : StoreState B K O → ℕ → Result Bool Refusal → StoreState B K O → Type 0
  CancelsTask old t (Ok true) new = Drops old (Cancel t) says.Yes new
  CancelsTask old t (Ok false) new = Drops old (Cancel t) says.No new
  CancelsTask old t (Err r) new = Refuses old (Cancel t) (says.Refused r) new

  -- Unknown if nothing was taken in under the ticket
  abbrev pub CancelsBooked : Option ℕ → CoreState B K O → Result Bool Refusal → CoreState B K O → Type 0
  CancelsBooked (Some t) old answer new = CancelsTask old.store t answer new.store × ChangesStore old new
  CancelsBooked None old answer new = (answer ≡ Err Unknown) × (new ≡ old)

  -- the same, unless it is stuck
  abbrev pub CancelsUnless : Bool → Option ℕ → CoreState B K O → Result Bool Refusal → CoreState B K O → Type 0
  CancelsUnless true booked old answer new = (answer ≡ Err LogFull) × (new ≡ old)
  CancelsUnless false booked old answer new = CancelsBooked booked old answer new

  -- what was taken in first under a ticket is cancelled
  abbrev pub CancelsTicket : CoreState B K O → ℕ → Result Bool Refusal → CoreState B K O → Type 0
  CancelsTicket old ticket answer new = CancelsUnless old.store.stuck (booked_under old.bookings ticket) old answer new
