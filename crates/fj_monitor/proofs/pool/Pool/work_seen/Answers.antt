use Rattle.std.proofs.Common.{rules}
use Rattle.fj_guarded.proofs.GoesOn.{prefix_then}
use Rattle.fj_monitor.proofs.pool.Pool.work_seen.Goals as goal

pub loop-preserved : goal.loop-preserved
loop-preserved g c =
    (search rules, search rules, c.follow-ask.ensures.asks, prefix_then c.args.front.now c.loop.front c.serve-next.new.front c.loop.invariant.3 c.serve-next.ensures.goes_on)

pub returns-in-Leave-clause-goes_on : goal.returns-in-Leave-clause-goes_on
returns-in-Leave-clause-goes_on g c = prefix_then c.args.front.now c.loop.front c.serve-next.new.front c.loop.invariant.3 c.serve-next.ensures.goes_on

pub returns-in-Leave-clause-left : goal.returns-in-Leave-clause-left
returns-in-Leave-clause-left g c = c.in-Leave.ensures.left
