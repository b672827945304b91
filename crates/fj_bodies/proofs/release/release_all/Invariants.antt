use Rattle.std.specs.Prelude.{Ok}
use Rattle.fj_bodies.specs.Waits.{AreWaiting, ReleasesFrom, waits}
use Rattle.fj_bodies.proofs.release.release_all.Given as goal

-- some were released, and of those that stand from here on none can be now
abbrev pub invariant-loop-i : goal.invariant-loop-i
invariant-loop-i l = record {
  waiting : AreWaiting (waits l.machine l.taken);
  releases : ReleasesFrom l.i (waits l.fn.machine l.fn.taken) (Ok tt) (waits l.machine l.taken);
}

abbrev pub decreases-loop-i : goal.decreases-loop-i
decreases-loop-i l = l.i
