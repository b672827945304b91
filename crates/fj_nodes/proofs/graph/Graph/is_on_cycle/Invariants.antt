use Rattle.fj_nodes.specs.Graphs.{LeadsTo}
use Rattle.fj_nodes.proofs.graph.Graph.is_on_cycle.Given as goal

-- the steps so far lead here
abbrev pub invariant-loop-step : goal.invariant-loop-step
invariant-loop-step l = LeadsTo l.self l.fn.node.0 l.at.0
