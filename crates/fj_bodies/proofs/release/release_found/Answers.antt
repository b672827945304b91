use Rattle.fj_bodies.specs.Waits.{waits}
use Rattle.fj_bodies.proofs.Upwards.{rests_so, up_from}
use Rattle.fj_bodies.proofs.release.release_found.Goals as goal

pub returns-in-Nothing-clause-releases : goal.returns-in-Nothing-clause-releases
returns-in-Nothing-clause-releases c = rests_so (waits c.args.machine.now c.args.taken.now) (rw c.in-Nothing.is at c.requires.due c.if-stuck.false)

pub returns-in-One-clause-releases : goal.returns-in-One-clause-releases
returns-in-One-clause-releases c =
    up_from 0 c.in-One.t (waits c.args.machine.now c.args.taken.now) _ c.release_up.result (rw c.in-One.is at c.requires.due c.if-stuck.false) c.release_up.ensures.releases
