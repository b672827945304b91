use Rattle.fj_trees.proofs.Sums.{tally_done}
use Rattle.fj_trees.proofs.tree_fold.FoldState.take.Goals as goal

pub returns-in_default-clause-right : goal.returns-in_default-clause-right
returns-in_default-clause-right g c = ∣ tally_done _ _ c.args.self.now.right.tally c.in_default.is ∣₁
