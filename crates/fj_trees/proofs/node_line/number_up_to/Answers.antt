use Rattle.fj_trees.proofs.NodeLines.{larger_number}
use Rattle.fj_trees.proofs.node_line.number_up_to.Goals as goal

pub returns-else-number-most : goal.returns-else-number-most
returns-else-number-most c = larger_number _ _ _ c.ranges.most.fits c.in-Ok.ensures c.if-number-most.false
