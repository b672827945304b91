-- A parcel is taken in.
use Rattle.std.specs.Prelude.{ℕ, ◌≡◌, ◌+◌, ◌⊎◌, ◌&&◌, Bool, true, false, [], ◌∷◌, ◌++◌, length, Option, Some, None, slice_get, slice_set}
use Rattle.fj_rules.specs.declared.kind.SubmittedKind.{SubmittedKind}
use Rattle.fj_rules.specs.declared.kind.SubmittedKind.TheVariants as submitted
use Rattle.fj_rules.specs.declared.refusal.Refusal.{Refusal}
use Rattle.fj_rules.specs.declared.refusal.Refusal.TheVariants.{LogFull}
use Rattle.fj_rules.specs.declared.step.Step.TheVariants as ask
use Rattle.fj_rules.specs.declared.said.Said.TheVariants as says
use Rattle.fj_rules.specs.Answers.{is_quiet, refusal_of}
use Rattle.fj_rules.specs.Pasts.{Past}
use Rattle.fj_rules.specs.Runs.{Steps}
use Rattle.fj_lane.specs.declared.parcel.Parcel.{Parcel}
use Rattle.fj_lane.specs.Ends.{DrainState}
use Rattle.fj_slots.specs.Shelves.{entries, with_entry}
use Rattle.fj_body.specs.Stores.{StoreState}
use Rattle.fj_calls.specs.declared.taken_in.Intake.{Intake}
use Rattle.fj_calls.specs.declared.taken_in.Intake.TheVariants as intake
use Rattle.fj_calls.specs.Closings.{is_due, is_over}
use Rattle.fj_calls.specs.Closes.{Dues}
use Rattle.fj_calls.specs.Cores.{CoreState, ChangesStore}

-- the kind under which a body is submitted
abbrev pub kind_rooted : Option ℕ → SubmittedKind
kind_rooted None = submitted.Plain
kind_rooted (Some count) = submitted.Completer true count

abbrev pub is_log_full : Refusal → Bool
is_log_full LogFull = true
is_log_full _ = false

-- why a submission is refused now, of whatever kind
abbrev pub refused_now : Past → ℕ → Option Refusal
refused_now past s = refusal_of past (ask.Submit s submitted.Plain)

-- with one parcel more, which it took
abbrev pub with_drained : {B : Type 0} → DrainState B → Parcel B → DrainState B
with_drained lane parcel = record lane { drained = lane.drained ++ parcel ∷ [] }

module _ {B K O : Type 0} where
  -- there is no room; if it is for an event and the machine is quiescent, the store is stuck from now on
  pub record FindsFull (old : StoreState B K O) (s : ℕ) (r : Refusal) (new : StoreState B K O) : Type 0 where
    pub free : old.stuck ≡ false
    pub goes_on : is_over old.past.events ≡ false
    pub refused : refused_now old.past s ≡ Some r
    pub sticks : new ≡ record old { stuck = is_log_full r && is_quiet old.past.pool.limits old.past.events }

  -- the answer before a look into the lane; None if a submission would not be refused
  abbrev pub Readies : StoreState B K O → ℕ → Option Intake → StoreState B K O → Type 0
  Readies old s (Some (intake.Full r)) new = ((old.stuck ≡ true) × (r ≡ LogFull) × (new ≡ old)) ⊎ FindsFull old s r new
  Readies old s (Some intake.Empty) new = (old.stuck ≡ false) × (is_over old.past.events ≡ true) × (new ≡ old)
  Readies old s (Some (intake.Took t)) new = ⊥
  Readies old s None new = (old.stuck ≡ false) × (is_over old.past.events ≡ false) × (refused_now old.past s ≡ None) × (new ≡ old)

  -- a body is submitted as `Body::rooted` says
  pub record Submits (rooted_as : B → Option ℕ) (old : StoreState B K O) (s : ℕ) (body : B) (serial : ℕ) (new : StoreState B K O) : Type 0 where
    pub step : Steps old.past (ask.Submit s (kind_rooted (rooted_as body))) (says.Task serial) new.past
    pub body_put : entries new.bodies ≡ with_entry (entries old.bodies) serial body
    pub others : new ≡ record old { past = new.past; bodies = new.bodies }

  -- the drain gave nothing: it has missed once more
  pub record Misses (old : CoreState B K O) (s : ℕ) (new : CoreState B K O) : Type 0 where
    pub free : old.store.stuck ≡ false
    pub goes_on : is_over old.store.past.events ≡ false
    pub unrefused : refused_now old.store.past s ≡ None
    pub lane : DrainState B
    pub at : slice_get old.lanes s ≡ Some lane
    pub missed : new ≡ record old { lanes = slice_set old.lanes s (record lane { missed = lane.missed + 1 }) }

  -- a parcel was taken in: it is the next of its lane, its body is submitted as it says, the task is booked under its ticket, and a step
  -- that is due then is made
  pub record TakesIn (rooted_as : B → Option ℕ) (old : CoreState B K O) (s serial : ℕ) (new : CoreState B K O) : Type 0 where
    pub free : old.store.stuck ≡ false
    pub goes_on : is_over old.store.past.events ≡ false
    pub parcel : Parcel B
    pub lane : DrainState B
    pub at : slice_get old.lanes s ≡ Some lane
    pub mid : StoreState B K O
    pub submits : Submits rooted_as old.store s parcel.body serial mid
    pub due : Dues (is_due old.closing.number (length old.bookings + 1)) old.closing.stopping mid new.store
    pub others : new ≡ record old {
      store = new.store;
      lanes = slice_set old.lanes s (with_drained lane parcel);
      bookings = old.bookings ++ record { ticket = parcel.ticket; serial = serial; by = s } ∷ [];
    }

  -- the intake of a submitter
  abbrev pub Intakes : (B → Option ℕ) → CoreState B K O → ℕ → Intake → CoreState B K O → Type 0
  Intakes rooted_as old s (intake.Full r) new = Readies old.store s (Some (intake.Full r)) new.store × ChangesStore old new
  Intakes rooted_as old s intake.Empty new = ((old.store.stuck ≡ false) × (is_over old.store.past.events ≡ true) × (new ≡ old)) ⊎ Misses old s new
  Intakes rooted_as old s (intake.Took serial) new = TakesIn rooted_as old s serial new
