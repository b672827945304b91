-- Which threads sleep, and which one is the lookout.
use Rattle.std.specs.Prelude.{◌≡◌, ◌≤◌, ◌<◌, ℕ, Bool, true, false, Option, None, List, length, All, slice_index_or}
use Rattle.fj_sleep.specs.declared.places.TheConstants.{MAX_PLACES}
use Rattle.fj_sleep.specs.declared.sleeper.Sleeper.{Sleeper}
use Rattle.fj_sleep.specs.declared.sleeper.Sleeper.TheVariants.{Awake}
use Rattle.fj_sleep.specs.Places.{is_due, is_resting, is_waiting}

-- the state of each place, and the place of the lookout
pub record SleepState (T : Type 0) : Type 0 where
  pub places : List (Sleeper T)
  pub lookout : Option ℕ

module _ {T : Type 0} where
  -- no place passes the test
  abbrev pub NobodyIs : (Sleeper T → Bool) → List (Sleeper T) → Type 0
  NobodyIs test places = All (λ s. test s ≡ false) places

  -- this place exists, and passes the test
  abbrev pub IsAt : (Sleeper T → Bool) → List (Sleeper T) → ℕ → Type 0
  IsAt test places p = (p < length places) × (test (slice_index_or places p Awake) ≡ true)

  -- if anybody rests, there is a lookout
  abbrev pub IsWatched : List (Sleeper T) → Option ℕ → Type 0
  IsWatched places lookout = lookout ≡ None → NobodyIs is_resting places

  -- the places are few and watched, and a state whose flag is false occurs nowhere
  pub record AreNoted (places : List (Sleeper T)) (lookout : Option ℕ) (waiting resting due : Bool) : Type 0 where
    pub few : length places ≤ MAX_PLACES
    pub watched : IsWatched places lookout
    pub no_waiting : waiting ≡ false → NobodyIs is_waiting places
    pub no_resting : resting ≡ false → NobodyIs is_resting places
    pub no_due : due ≡ false → NobodyIs is_due places
