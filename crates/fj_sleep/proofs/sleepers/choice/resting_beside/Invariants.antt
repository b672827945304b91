use Rattle.std.proofs.Common.{◌≡◌, ◌<◌, ℕ, Some}
use Rattle.fj_sleep.specs.Places.{is_resting}
use Rattle.fj_sleep.specs.Sleeping.{IsAt}
use Rattle.fj_sleep.proofs.sleepers.choice.resting_beside.Given as goal

-- nobody rests so far but the lookout
abbrev pub invariant-loop-place : goal.invariant-loop-place
invariant-loop-place g l = (p : ℕ) → p < l.place → IsAt is_resting l.places p → l.lookout ≡ Some p
