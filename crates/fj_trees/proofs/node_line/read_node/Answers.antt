use Rattle.fj_trees.proofs.NodeLines.{no_space, no_parent, no_value}
use Rattle.fj_trees.proofs.node_line.read_node.Goals as goal

pub returns-in_default : goal.returns-in_default
returns-in_default c = no_space _ _ c.in_default.ensures

pub returns-in_default-read_parent : goal.returns-in_default-read_parent
returns-in_default-read_parent c = no_parent _ _ _ _ c.in-Some.ensures.0 c.in-Some.ensures.1 c.in_default-read_parent.ensures

pub returns-in_default-number_up_to : goal.returns-in_default-number_up_to
returns-in_default-number_up_to c = no_value _ _ _ _ c.in-Some.ensures.0 c.in-Some.ensures.1 c.in_default-number_up_to.ensures
