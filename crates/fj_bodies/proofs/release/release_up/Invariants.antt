use Rattle.fj_bodies.specs.Waits.{AreWaiting, waits}
use Rattle.fj_bodies.proofs.Upwards.{ClimbsTo, steps_left}
use Rattle.fj_bodies.proofs.release.release_up.Given as goal

-- some were released, and where only the first could be, none can be now but the next
abbrev pub invariant-loop-next : goal.invariant-loop-next
invariant-loop-next l = record {
  waiting : AreWaiting (waits l.machine l.taken);
  climbs : ClimbsTo l.fn.t (waits l.fn.machine l.fn.taken) l.next (waits l.machine l.taken);
}

abbrev pub decreases-loop-next : goal.decreases-loop-next
decreases-loop-next l = steps_left l.next l.taken.items
