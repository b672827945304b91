use Rattle.std.proofs.Common.{ℕ, ◌≡◌, ◌<◌, true, length, get_or, Some}
use Rattle.fj_sleep.specs.declared.sleeper.Sleeper.TheVariants.{Awake}
use Rattle.fj_sleep.specs.Places.{aim}
use Rattle.fj_calls.specs.Joins.{is_joinable}
use Rattle.fj_wake.proofs.waits.looking.wake_joining.Given as goal

-- each worker at a place so far waits for a task that has still to end
abbrev pub invariant-loop-place : goal.invariant-loop-place
invariant-loop-place g l = record {
  long : length l.workers.places ≡ length l.fn.workers.places;
  so_far : (p : ℕ) → p < l.place → (t : ℕ) → aim (get_or l.workers.places p Awake) ≡ Some t → is_joinable l.core t ≡ true;
}
