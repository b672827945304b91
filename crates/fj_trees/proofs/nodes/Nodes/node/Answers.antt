use Rattle.std.proofs.Common.{rules}
use Rattle.fj_trees.proofs.TreeValues.{good_at}
use Rattle.fj_trees.proofs.nodes.Nodes.node.Goals as goal

pub returns-clause-good : goal.returns-clause-good
returns-clause-good c = let good = good_at c.args.self.now c.args.number c.as_slice-nodes.ensures.tree.0 c.requires in search rules
