-- The state of a place, and its changes.
use Rattle.std.specs.Prelude.{Bool, true, false, ◌||◌, if◌then◌else◌, Option, Some, None}
use Rattle.fj_sleep.specs.declared.sleeper.Sleeper.{Sleeper}
use Rattle.fj_sleep.specs.declared.sleeper.Sleeper.TheVariants.{Awake, Resting, Waiting, Due, Woken}

module _ {T : Type 0} where
  -- whether nobody sleeps
  abbrev pub is_awake : Sleeper T → Bool
  is_awake Awake = true
  is_awake _ = false

  -- whether somebody has nothing to do
  abbrev pub is_resting : Sleeper T → Bool
  is_resting Resting = true
  is_resting _ = false

  -- whether somebody waits
  abbrev pub is_waiting : Sleeper T → Bool
  is_waiting (Waiting t) = true
  is_waiting _ = false

  -- whether somebody is to be woken
  abbrev pub is_due : Sleeper T → Bool
  is_due Due = true
  is_due _ = false

  -- whether somebody rests or waits
  abbrev pub is_asleep : Sleeper T → Bool
  is_asleep s = is_resting s || is_waiting s

  -- what somebody waits for
  abbrev pub aim : Sleeper T → Option T
  aim (Waiting t) = Some t
  aim _ = None

  -- if the test is passed, the thread is to be woken
  abbrev pub roused_if : (Sleeper T → Bool) → Sleeper T → Sleeper T
  roused_if test s = if test s then Due else s

  -- a thread that was due is woken
  abbrev pub taken : Sleeper T → Sleeper T
  taken Due = Woken
  taken s = s
