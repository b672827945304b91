use Rattle.fj_recursive.proofs.Joins.{joins_done, joins_forked}
use Rattle.fj_recursive.proofs.recursive.RecursiveState.after_fork.Goals as goal

pub returns-in-Task-clause-asks : goal.returns-in-Task-clause-asks
returns-in-Task-clause-asks g c = record {
  rightly = c.forked.ensures.asks.rightly;
  nearer = c.forked.ensures.asks.nearer;
  as_job = c.forked.ensures.asks.as_job;
  joins = rw c.in-Task.is (joins_forked c.args.self.now.lefts.items c.in-Task.task c.args.key _ c.forked.result c.forked.ensures.asks.joins);
}

pub returns-in-Some-clause-asks : goal.returns-in-Some-clause-asks
returns-in-Some-clause-asks g c = record {
  rightly = c.forked-in-Some.ensures.asks.rightly;
  nearer = c.forked-in-Some.ensures.asks.nearer;
  as_job = c.forked-in-Some.ensures.asks.as_job;
  joins = rw c.in-Handed.is (joins_done c.args.self.now.lefts.items c.in-Some.value _ c.forked-in-Some.result c.forked-in-Some.ensures.asks.joins);
}
