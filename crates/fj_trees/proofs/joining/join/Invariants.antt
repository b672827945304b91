use Rattle.std.proofs.Common.{◌-◌, length}
use Rattle.fj_trees.specs.Families.{IsJoined, nodes_of}
use Rattle.fj_trees.proofs.joining.join.Given as goal

-- the last nodes are joined to their parents
abbrev pub invariant-loop-done : goal.invariant-loop-done
invariant-loop-done l = IsJoined (nodes_of l.fn.members) (length (nodes_of l.fn.members) - l.done) l.members
