use Rattle.std.proofs.Common.{◌≡◌, ◌<◌, ◌≤◌, ◌++◌, ℕ, false, length, map, take, drop, slice_index_or}
use Rattle.fj_sleep.specs.declared.places.TheConstants.{MAX_PLACES}
use Rattle.fj_sleep.specs.declared.sleeper.Sleeper.TheVariants.{Awake}
use Rattle.fj_sleep.specs.Places.{is_due, taken}
use Rattle.fj_sleep.proofs.sleepers.waking.take_each_due.Given as goal

-- those so far that were due are woken, and chosen
abbrev pub invariant-loop-place : goal.invariant-loop-place
invariant-loop-place g l = record {
  woken : l.places ≡ map taken (take l.place l.initial.places) ++ drop l.place l.initial.places;
  chosen : (p : ℕ) → p < l.place → slice_index_or l.chosen p false ≡ is_due (slice_index_or l.initial.places p Awake);
  room : length l.chosen ≡ MAX_PLACES;
  rest : (p : ℕ) → l.place ≤ p → slice_index_or l.chosen p false ≡ false;
}
