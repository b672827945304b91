use Rattle.fj_guarded.proofs.Keeping.{keeps_fit, looks_keep, looks_then}
use Rattle.fj_guarded.proofs.guarded.Guarded.look_for_work.Goals as goal

pub poll_on-requires-clause-fits : goal.poll_on-requires-clause-fits
poll_on-requires-clause-fits g c =
    keeps_fit c.args.self.now.store.past c.look_at_lanes-taken.new.self.store.past c.args.hand.now
    (looks_keep g.B.Body.rooted_as c.args.self.now c.look_at_lanes-taken.new.self c.look_at_lanes-taken.result c.look_at_lanes-taken.ensures) c.requires.fits

pub returns-clause-others : goal.returns-clause-others
returns-clause-others g c =
    looks_then g.B.Body.rooted_as c.args.hand.now.worker c.args.self.now c.look_at_lanes-taken.new.self c.poll_on.new.self c.look_at_lanes-taken.result c.look_at_lanes-taken.ensures c.poll_on.ensures.others
