use Rattle.std.proofs.Common.{rules}
use Rattle.fj_guarded.proofs.GoesOn.{prefix_then}
use Rattle.fj_monitor.proofs.Telling.{told_at, told_within}
use Rattle.fj_monitor.proofs.pool.Pool.await_any_with.Goals as goal

pub loop-preserved : goal.loop-preserved
loop-preserved g c = (search rules, search rules, prefix_then c.args.front.now c.loop.front c.tell_any.new.front c.loop.invariant.2 c.tell_any.ensures.goes_on)

pub returns-in-Some-tell_any-clause-goes_on : goal.returns-in-Some-tell_any-clause-goes_on
returns-in-Some-tell_any-clause-goes_on g c = prefix_then c.args.front.now c.loop.front c.tell_any.new.front c.loop.invariant.2 c.tell_any.ensures.goes_on

pub returns-in-Some-tell_any-clause-seen : goal.returns-in-Some-tell_any-clause-seen
returns-in-Some-tell_any-clause-seen g c = c.in-Some-tell_any.ensures.seen

pub returns-in-Some-tell_any-clause-place : goal.returns-in-Some-tell_any-clause-place
returns-in-Some-tell_any-clause-place g c =
    told_within c.tell_any.new.front c.args.tickets.now c.in-Some-tell_any.told.0 c.in-Some-tell_any.told.1 c.in-Some-tell_any.ensures.seen

pub returns-in-Some-tell_any-clause-told : goal.returns-in-Some-tell_any-clause-told
returns-in-Some-tell_any-clause-told g c =
    told_at c.tell_any.new.front c.args.tickets.now c.in-Some-tell_any.told.0 c.in-Some-tell_any.told.1 c.in-Some-tell_any.ensures.seen
