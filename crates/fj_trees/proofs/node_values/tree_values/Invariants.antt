use Rattle.std.proofs.Common.{◌-◌, length}
use Rattle.fj_trees.specs.TreeSums.{IsSummed}
use Rattle.fj_trees.proofs.node_values.tree_values.Given as goal

-- the last nodes are summed
abbrev pub invariant-loop-done : goal.invariant-loop-done
invariant-loop-done l = IsSummed l.nodes (length l.nodes - l.done) l.values.items l.plain.items l.weighted.items
