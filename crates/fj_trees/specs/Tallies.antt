-- Partial sums of the values of nodes.
use Rattle.std.specs.Prelude.{ℕ, ◌≡◌, ◌+◌, ◌-◌, ◌%◌, ◌<◌, ◌≤◌, List, [], length, map, Option, Some, None, IfSome}
use Rattle.fj_trees.specs.declared.node.Node.{Node}
use Rattle.fj_trees.specs.TreeValues.{children_from, node_value, weighted}
use Rattle.fj_trees.specs.declared.child_sum.ChildSum.{ChildSum}
use Rattle.fj_trees.specs.Families.{IsChild}

-- the children of p from this one on
abbrev pub from_child : List Node → ℕ → Option ℕ → List ℕ
from_child nodes p None = []
from_child nodes p (Some c) = children_from nodes c p

-- the sum, and the weighted values of the children that are still to come, make the value of the node
pub record IsTally (nodes : List Node) (tally : ChildSum) : Type 0 where
  pub node : tally.node < length nodes
  pub weight : 1 ≤ tally.weight
  pub child : IfSome tally.child (λ c. IsChild nodes tally.node c × (tally.weight ≤ c))
  pub small : tally.sum < 1000000007
  pub value : (tally.sum + weighted tally.weight (map (node_value nodes) (from_child nodes tally.node tally.child))) % 1000000007 ≡ node_value nodes tally.node

-- how many numbers of nodes there are from this one on
abbrev pub numbers_from : ℕ → Option ℕ → ℕ
numbers_from count None = 0
numbers_from count (Some c) = count - c
