-- The closing number is set, and what is due is made.
use Rattle.std.specs.Prelude.{ℕ, ◌≡◌, ◌⊎◌, ◌==◌, ◌&&◌, Bool, true, false, length, Option, Some, None}
use Rattle.fj_rules.specs.declared.step.Step.{Step}
use Rattle.fj_rules.specs.declared.step.Step.TheVariants.{Shutdown, Stop}
use Rattle.fj_rules.specs.Answers.{is_quiet}
use Rattle.fj_body.specs.Stores.{StoreState}
use Rattle.fj_body.specs.Choosing.{WasStuck}
use Rattle.fj_body.specs.Asking.{Shuts}
use Rattle.fj_calls.specs.declared.cutoff.Cutoff.{Cutoff}
use Rattle.fj_calls.specs.Closings.{first_set, is_due, is_over}
use Rattle.fj_calls.specs.Cores.{CoreState}

-- the step that is made once the number is reached
abbrev pub shut_step : Bool → Step
shut_step true = Stop
shut_step false = Shutdown

abbrev pub is_number : Option ℕ → ℕ → Bool
is_number None n = false
is_number (Some m) n = m == n

-- by `close_at`, and by `stop_at`
abbrev pub closed_at : Cutoff → ℕ → Cutoff
closed_at closing number = record closing { number = first_set closing.number number }

abbrev pub stopped_at : Cutoff → ℕ → Cutoff
stopped_at closing number = record { number = first_set closing.number number; stopping = true }

module _ {B K O : Type 0} where
  -- if it is due, the step is made, or finds no room; a stuck store makes none
  abbrev pub Dues : Bool → Bool → StoreState B K O → StoreState B K O → Type 0
  Dues false stopping old new = new ≡ old
  Dues true stopping old new = WasStuck old new ⊎ ((old.stuck ≡ false) × ((made : Bool) × Shuts old (shut_step stopping) made new))

  -- these are the closing number and the step from now on, and a step that is due is made
  pub record ShutsAt (old : CoreState B K O) (closing : Cutoff) (new : CoreState B K O) : Type 0 where
    pub sets : new ≡ record old { store = new.store; closing = closing }
    pub due : Dues (is_due closing.number (length old.bookings)) closing.stopping old.store new.store

  -- whether it is terminated: shut, quiescent, and the closing number is the number of submissions taken in
  abbrev pub is_finished : CoreState B K O → Bool
  is_finished c = is_number c.closing.number (length c.bookings) && is_over c.store.past.events && is_quiet c.store.past.pool.limits c.store.past.events
