use Rattle.std.proofs.Common.{ℕ, ◌≡◌, ◌<◌, true, get_or, Some}
use Rattle.fj_calls.specs.Cores.{is_awaited}
use Rattle.fj_sleep.specs.declared.sleeper.Sleeper.TheVariants.{Awake}
use Rattle.fj_sleep.specs.Places.{aim}
use Rattle.fj_wake.specs.Waiting.{WaitBelow}
use Rattle.fj_wake.proofs.waits.looking.wake_awaiting.Given as goal

-- each caller at a seat so far awaits an outcome that has still to come
abbrev pub invariant-loop-seat : goal.invariant-loop-seat
invariant-loop-seat g l = record {
  used : WaitBelow l.used l.seats.places;
  so_far : (p : ℕ) → p < l.seat → (k : ℕ) → aim (get_or l.seats.places p Awake) ≡ Some k → is_awaited l.core k ≡ true;
}
