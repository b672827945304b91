use Rattle.std.proofs.Common.{◌≡◌, ◌<◌}
use Rattle.std.specs.Prelude.{IfSome}
use Rattle.fj_guarded.specs.Looking.{TakesFrom, so_far_behind}
use Rattle.fj_guarded.proofs.guarded.outside.take_each.Given as goal

-- the submitters so far were looked at, and the next one is that behind them
abbrev pub invariant-loop-look : goal.invariant-loop-look
invariant-loop-look g l = record {
  taken : TakesFrom g.B.Body.rooted_as (g.C.CoreView.state l.fn.core).store.past.pool.limits.submitters l.fn.first l._look (g.C.CoreView.state l.fn.core) l.taken (g.C.CoreView.state l.core);
  at : l.s ≡ so_far_behind (g.C.CoreView.state l.fn.core).store.past.pool.limits.submitters l.fn.first l._look;
  within : l.s < (g.C.CoreView.state l.fn.core).store.past.pool.limits.submitters;
  waits : IfSome l.waits (λ t. t < (g.C.CoreView.state l.fn.core).store.past.pool.limits.submitters);
}
