use Rattle.std.proofs.Common.{rules}
use Rattle.fj_guarded.proofs.GoesOn.{prefix_then, seen_told}
use Rattle.fj_monitor.proofs.pool.Pool.await_with.Goals as goal

pub loop-preserved : goal.loop-preserved
loop-preserved g c = (search rules, search rules, prefix_then c.args.front.now c.loop.front c.tell.new.front c.loop.invariant.2 c.tell.ensures.goes_on)

pub returns-in-Some-tell-clause-goes_on : goal.returns-in-Some-tell-clause-goes_on
returns-in-Some-tell-clause-goes_on g c = prefix_then c.args.front.now c.loop.front c.tell.new.front c.loop.invariant.2 c.tell.ensures.goes_on

pub returns-in-Some-tell-clause-seen : goal.returns-in-Some-tell-clause-seen
returns-in-Some-tell-clause-seen g c = c.in-Some-tell.ensures.seen

pub returns-in-Some-tell-clause-told : goal.returns-in-Some-tell-clause-told
returns-in-Some-tell-clause-told g c = seen_told c.tell.new.front c.args.ticket c.in-Some-tell.answer c.in-Some-tell.ensures.seen
