use mathlib.Core.List.{IsPrefix}
use Rattle.fj_monitor.proofs.pool.Pool.await_any_with.Given as goal

-- what was seen at first begins what is seen now
abbrev pub invariant-loop : goal.invariant-loop
invariant-loop g l = (goal.iterator-loop g).can_next l.iterator' × (goal.iterator-loop g).is_finite l.iterator' × IsPrefix l.fn.front l.front
