use Rattle.std.proofs.Common.{refl}
use Rattle.fj_trees.proofs.tree_fold.FoldState.fork.Goals as goal

pub returns-then-is_err-clause-forks : goal.returns-then-is_err-clause-forks
returns-then-is_err-clause-forks g c = rw (c.in-Some.is, c.fail.ensures.fails.0) (refl, rw c.in-Some.is at c.fail.ensures.fails.1)

pub returns-in-Err-clause-forks : goal.returns-in-Err-clause-forks
returns-in-Err-clause-forks g c = rw (c.in-Some.is, c.fail-in-Err.ensures.fails.0) (refl, rw c.in-Some.is at c.fail-in-Err.ensures.fails.1)
