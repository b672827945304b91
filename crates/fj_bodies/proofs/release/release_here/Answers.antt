use Rattle.std.proofs.Common.{sym, ◌∙◌}
use Rattle.fj_rules.proofs.Events.Releasable.{can_parts}
use Rattle.fj_bodies.specs.Waits.{waits}
use Rattle.fj_bodies.proofs.Upwards.{untaken_rests, needed_rests, full_rests, released_here}
use Rattle.fj_bodies.proofs.release.release_here.Goals as goal

pub returns-then-not-has-clause-releases : goal.returns-then-not-has-clause-releases
returns-then-not-has-clause-releases c = untaken_rests (waits c.args.machine.now c.args.taken.now) c.args.t (sym c.has.ensures ∙ c.if-not-has.true)

pub returns-in-Released-clause-releases : goal.returns-in-Released-clause-releases
returns-in-Released-clause-releases c =
    let went = rw c.in-Released.is at c.try_release.ensures.tries in
    released_here (waits c.args.machine.now c.args.taken.now) _ c.args.t c.parent-parent.result c.requires.run (sym c.has.ensures ∙ c.if-not-has.false) went
    (c.parent-parent.ensures (can_parts c.args.machine.now.events c.args.t went.0).kept)

pub returns-in-Needed-clause-releases : goal.returns-in-Needed-clause-releases
returns-in-Needed-clause-releases c = needed_rests (waits c.args.machine.now c.args.taken.now) _ c.args.t (rw c.in-Needed.is at c.try_release.ensures.tries)

pub returns-in-Full-clause-releases : goal.returns-in-Full-clause-releases
returns-in-Full-clause-releases c = full_rests (waits c.args.machine.now c.args.taken.now) _ c.args.t (sym c.has.ensures ∙ c.if-not-has.false) (rw c.in-Full.is at c.try_release.ensures.tries)
