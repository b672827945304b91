-- Why a graph was not run to its end.
use Rattle.std.specs.Prelude.{ℕ, ◌<◌, List, length}
use Rattle.fj_results.specs.Results.{RefusesRun}
use Rattle.fj_nodes.specs.Graphs.{NeedsCycle}
use Rattle.fj_graph.specs.declared.refused.GraphRefused.{GraphRefused}
use Rattle.fj_graph.specs.declared.refused.GraphRefused.TheVariants.{Cycle, Refused}

-- a reported node is on a cycle or needs a node that is, and the pool refuses as a run does
abbrev pub RefusesGraph : List (List ℕ) → GraphRefused → Type 0
RefusesGraph graph (Cycle node) = (node.0 < length graph) × NeedsCycle graph node.0
RefusesGraph graph (Refused refusal) = RefusesRun refusal
