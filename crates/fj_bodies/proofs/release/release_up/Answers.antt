use Rattle.fj_bodies.specs.Waits.{waits}
use Rattle.fj_bodies.proofs.Upwards.{climbs_from, climbs_on, climbs_fewer, full_ends}
use Rattle.fj_bodies.proofs.release.release_up.Goals as goal

pub loop-next-init : goal.loop-next-init
loop-next-init c = record { waiting = c.requires; climbs = climbs_from c.args.t (waits c.args.machine.now c.args.taken.now) }

pub loop-next-smaller : goal.loop-next-smaller
loop-next-smaller c = rw c.in-Some.is (climbs_fewer c.in-Some.u (waits c.loop-next.machine c.loop-next.taken) _ c.in_ok-next.next (rw c.in_ok-next.was at c.release_here.ensures.releases))

pub loop-next-preserved : goal.loop-next-preserved
loop-next-preserved c = record {
  waiting = c.release_here.ensures.waiting;
  climbs =
      climbs_on c.args.t c.in-Some.u (waits c.args.machine.now c.args.taken.now) (waits c.loop-next.machine c.loop-next.taken) _ c.in_ok-next.next (rw c.in-Some.is at c.loop-next.invariant.climbs)
      (rw c.in_ok-next.was at c.release_here.ensures.releases);
}

pub returns-in_err-next-clause-releases : goal.returns-in_err-next-clause-releases
returns-in_err-next-clause-releases c =
    full_ends c.args.t (waits c.args.machine.now c.args.taken.now) (waits c.loop-next.machine c.loop-next.taken) _ c.from_residual.result c.from_residual.ensures.0 (rw c.in-Some.is at c.loop-next.invariant.climbs).0
    c.in_err-next.ensures.releases
