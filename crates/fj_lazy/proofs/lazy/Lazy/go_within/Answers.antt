use Rattle.std.proofs.Common.{arith}
use Rattle.fj_lazy.proofs.Asking.{nearer_more}
use Rattle.fj_lazy.proofs.Joined.{forked_count}
use Rattle.fj_lazy.proofs.lazy.Lazy.go_within.Goals as goal

pub returns-clause-asks : goal.returns-clause-asks
returns-clause-asks g c = record {
  rightly = c.go_on.ensures.asks.rightly;
  nearer = nearer_more _ _ _ _ c.go_on.ensures.asks.nearer (omega (arith, forked_count _ _ c.args.forked c.push_reserved.ensures.items));
  as_job = c.go_on.ensures.asks.as_job;
  joins = rw c.push_reserved.ensures.items at c.go_on.ensures.asks.joins;
}
