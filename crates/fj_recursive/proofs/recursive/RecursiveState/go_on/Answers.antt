use Rattle.fj_recursive.proofs.Stages.{goes_by_fork, goes_by_leaf}
use Rattle.fj_recursive.proofs.recursive.RecursiveState.go_on.Goals as goal

pub returns-in-Ok-clause-next : goal.returns-in-Ok-clause-next
returns-in-Ok-clause-next g c = goes_by_fork _ _ _ _ _ _ _ _ _ c.in-Ok.left c.in-Ok.right _ c.in-Ok.ensures.halves c.in-Ok.ensures.smaller c.fork.ensures.forks

pub returns-in-Err-clause-next : goal.returns-in-Err-clause-next
returns-in-Err-clause-next g c = goes_by_leaf _ _ _ _ _ _ _ _ _ _ (rw c.in-Err.ensures.leaf.0 at c.in-Err.ensures.leaf.1) c.finish.ensures.finishes
