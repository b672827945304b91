-- Which threads go to sleep, and which are woken.
use Rattle.std.specs.Prelude.{◌≡◌, ◌≢◌, ℕ, Bool, false, ◌⊎◌, Option, Some, None, List, slice_index_or, slice_set}
use Rattle.std.specs.Option.{option_or}
use Rattle.fj_sleep.specs.declared.sleeper.Sleeper.{Sleeper}
use Rattle.fj_sleep.specs.declared.sleeper.Sleeper.TheVariants.{Awake, Due, Resting}
use Rattle.fj_sleep.specs.declared.whom.Whom.{Whom}
use Rattle.fj_sleep.specs.declared.whom.Whom.TheVariants.{All, Waiting}
use Rattle.fj_sleep.specs.Places.{is_asleep, is_due, is_resting, is_waiting, roused_if}
use Rattle.fj_sleep.specs.Sleeping.{IsAt, NobodyIs, SleepState}

module _ {T : Type 0} where
  -- whether a thread is one of these
  abbrev pub includes : Whom → Sleeper T → Bool
  includes All = is_asleep
  includes Waiting = is_waiting

  -- the thread at this place rests, and is the lookout if there was none
  abbrev pub with_resting : SleepState T → ℕ → SleepState T
  with_resting old p = record { places = slice_set old.places p Resting; lookout = option_or old.lookout (Some p) }

  -- the thread at this place is to be woken
  abbrev pub with_due : SleepState T → ℕ → SleepState T
  with_due old p = record old { places = slice_set old.places p Due }

  -- the thread that sleeps at this place is to be woken
  abbrev pub with_roused : SleepState T → ℕ → SleepState T
  with_roused old p = record old { places = slice_set old.places p (roused_if is_asleep (slice_index_or old.places p Awake)) }

  -- one that rests is the lookout now, and is to be woken; or nobody rests, and nobody is the lookout
  abbrev pub PassesOn : SleepState T → SleepState T → Type 0
  PassesOn old new =
      ((p : ℕ) × IsAt is_resting old.places p × (new ≡ record (with_due old p) { lookout = Some p }))
      ⊎ (NobodyIs is_resting old.places × (new ≡ record old { lookout = None }))

  -- nobody rests but the lookout
  abbrev pub OnlyLookoutRests : List (Sleeper T) → Option ℕ → Type 0
  OnlyLookoutRests places lookout = (p : ℕ) → IsAt is_resting places p → lookout ≡ Some p

  -- a thread sleeps at this place: one that rests if any does, and not the lookout if another one rests
  pub record MayWake (places : List (Sleeper T)) (lookout : Option ℕ) (p : ℕ) : Type 0 where
    pub asleep : IsAt is_asleep places p
    pub rests : (q : ℕ) → IsAt is_resting places q → IsAt is_resting places p
    pub spares : (q : ℕ) → IsAt is_resting places q → lookout ≢ Some q → lookout ≢ Some p

  -- one of those is to be woken, and nothing else changes; or nobody sleeps, and nothing changes
  abbrev pub WakesOne : SleepState T → SleepState T → Type 0
  WakesOne old new =
      ((p : ℕ) × MayWake old.places old.lookout p × (new ≡ with_due old p)) ⊎ (NobodyIs is_asleep old.places × (new ≡ old))

  -- these are exactly those that are to be woken
  abbrev pub AreDue : List Bool → List (Sleeper T) → Type 0
  AreDue chosen places = (p : ℕ) → slice_index_or chosen p false ≡ is_due (slice_index_or places p Awake)
