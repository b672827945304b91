-- Who waits for what.
use Rattle.std.specs.Prelude.{ℕ, ◌≡◌, ◌<◌, ◌&&◌, Bool, true, not, Some, List, length, slice_index_or}
use Rattle.fj_calls.specs.Cores.{CoreState, is_awaited}
use Rattle.fj_calls.specs.Joins.{is_joinable}
use Rattle.fj_sleep.specs.declared.sleeper.Sleeper.{Sleeper}
use Rattle.fj_sleep.specs.declared.sleeper.Sleeper.TheVariants.{Awake}
use Rattle.fj_sleep.specs.declared.wanted.Wanted.TheVariants.{One}
use Rattle.fj_sleep.specs.Places.{aim}
use Rattle.fj_wake.specs.declared.waits.Waits.{Waits}

-- each thread that waits at one of these places waits for what passes the test
abbrev pub AllWaitFor : {T : Type 0} → (T → Bool) → List (Sleeper T) → Type 0
AllWaitFor test places = (p : ℕ) (t : _) → aim (slice_index_or places p Awake) ≡ Some t → test t ≡ true

-- each thread that waits at one of the places waited there for the same before
abbrev pub FewerWait : {T : Type 0} → List (Sleeper T) → List (Sleeper T) → Type 0
FewerWait old new = (p : ℕ) (t : _) → aim (slice_index_or new p Awake) ≡ Some t → aim (slice_index_or old p Awake) ≡ Some t

-- nobody waits at a place from this one on
abbrev pub WaitBelow : {T : Type 0} → ℕ → List (Sleeper T) → Type 0
WaitBelow bound places = (p : ℕ) (t : _) → aim (slice_index_or places p Awake) ≡ Some t → p < bound

-- it was looked at one place: a thread that waits there does so for what passes the test, and nobody waits elsewhere who did not before
pub record LooksAt {T : Type 0} (test : T → Bool) (old : List (Sleeper T)) (p : ℕ) (new : List (Sleeper T)) : Type 0 where
  pub long : length new ≡ length old
  pub fewer : FewerWait old new
  pub here : (t : T) → aim (slice_index_or new p Awake) ≡ Some t → test t ≡ true

-- no wake-up is lost: each worker that waits for a task waits for one that passes the first test, and each caller at a seat for an outcome
-- that passes the second one; so do callers without a seat that all wait for the same outcome
pub record WaitOnlyFor (joinable awaited : ℕ → Bool) (waits : Waits) : Type 0 where
  pub workers : AllWaitFor joinable waits.workers.places
  pub seats : AllWaitFor awaited waits.seats.places
  -- nobody waits at a seat that was never used
  pub used : WaitBelow waits.seats_used waits.seats.places
  pub crowd : (k : ℕ) → waits.crowd ≡ One k → awaited k ≡ true

-- what is waited for at a core has still to come
abbrev pub NoLostWakeUp : {B K O : Type 0} → Waits → CoreState B K O → Type 0
NoLostWakeUp waits core = WaitOnlyFor (is_joinable core) (is_awaited core) waits

-- nobody waits for anything for which nobody did before
abbrev pub WaitForNothingNew : Waits → Waits → Type 0
WaitForNothingNew old new = (joinable awaited : ℕ → Bool) → WaitOnlyFor joinable awaited old → WaitOnlyFor joinable awaited new

-- nobody waits
abbrev pub NobodyWaits : Waits → Type 0
NobodyWaits waits = (joinable awaited : ℕ → Bool) → WaitOnlyFor joinable awaited waits

-- what passed the tests has still to come at a core
pub record StillToCome {B K O : Type 0} (joinable awaited : ℕ → Bool) (core : CoreState B K O) : Type 0 where
  pub tasks : (t : ℕ) → joinable t ≡ true → is_joinable core t ≡ true
  pub outcomes : (k : ℕ) → awaited k ≡ true → is_awaited core k ≡ true
