use Rattle.std.specs.Prelude.{slice_index}
use Rattle.std.proofs.Common.{ℕ, ◌<◌}
use Rattle.fj_nodes.specs.Graphs.{IsAbove}
use Rattle.fj_nodes.proofs.graph.Graph.cycle.Given as goal

-- the nodes so far are above their inputs
abbrev pub invariant-loop-number : goal.invariant-loop-number
invariant-loop-number l = (n : ℕ) → n < l.number → IsAbove (slice_index l.ranks.items) l.self n
