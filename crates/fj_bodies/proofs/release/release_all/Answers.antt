use Rattle.std.proofs.Common.{length, ap, arith}
use Rattle.fj_bodies.specs.Waits.{waits}
use Rattle.fj_bodies.proofs.Chains.{end_went, full_from, more_went}
use Rattle.fj_bodies.proofs.release.release_all.Goals as goal

pub loop-i-init : goal.loop-i-init
loop-i-init c = record {
  waiting = c.requires;
  releases = end_went (waits c.args.machine.now c.args.taken.now) (length c.as_slice-i.result.now) (omega (arith, ap length c.as_slice-i.ensures));
}

pub loop-i-preserved : goal.loop-i-preserved
loop-i-preserved c =
    let went = rw c.in_ok-release_from.was at c.release_from.ensures.releases in record {
      waiting = c.release_from.ensures.waiting;
      releases = (more_went (waits c.args.machine.now c.args.taken.now) (waits c.loop-i.machine c.loop-i.taken) _ c.loop-i.invariant.releases.0 went.0, went.1);
    }

pub returns-in_err-release_from-clause-releases : goal.returns-in_err-release_from-clause-releases
returns-in_err-release_from-clause-releases c =
    full_from 0 (waits c.args.machine.now c.args.taken.now) (waits c.loop-i.machine c.loop-i.taken) _ c.from_residual.result c.from_residual.ensures.0 c.loop-i.invariant.releases.0 c.in_err-release_from.ensures.releases
