use Rattle.std.proofs.Common.{◌≡◌, ◌++◌, false, map, take, drop}
use Rattle.std.specs.List.{AllWithin}
use Rattle.fj_sleep.specs.Places.{is_due, is_resting, is_waiting, roused_if}
use Rattle.fj_sleep.specs.Waking.{includes}
use Rattle.fj_sleep.proofs.sleepers.waking.rouse_each.Given as goal

-- those so far are due, and it is noted what there is so far
abbrev pub invariant-loop-place : goal.invariant-loop-place
invariant-loop-place g l = record {
  places : l.places ≡ map (roused_if (includes l.whom)) (take l.place l.initial.places) ++ drop l.place l.initial.places;
  waiting : l.kinds.waiting ≡ false → AllWithin (λ s. is_waiting s ≡ false) l.places 0 l.place;
  resting : l.kinds.resting ≡ false → AllWithin (λ s. is_resting s ≡ false) l.places 0 l.place;
  due : l.kinds.due ≡ false → AllWithin (λ s. is_due s ≡ false) l.places 0 l.place;
}
