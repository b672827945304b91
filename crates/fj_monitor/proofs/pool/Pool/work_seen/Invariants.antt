use Rattle.std.proofs.Common.{IfSome}
use mathlib.Core.List.{IsPrefix}
use Rattle.fj_guarded.specs.Turning.{MayAsk}
use Rattle.fj_monitor.proofs.pool.Pool.work_seen.Given as goal

abbrev pub invariant-loop : goal.invariant-loop
invariant-loop g l =
    (goal.iterator-loop g).can_next l.iterator' × (goal.iterator-loop g).is_finite l.iterator'
    × IfSome l.ask (λ a. MayAsk g.B.Body.right g.B.Body.key_of l.hand a) × IsPrefix l.fn.front l.front
