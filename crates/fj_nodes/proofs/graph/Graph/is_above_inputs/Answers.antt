use Rattle.std.proofs.Common.{◌∙◌, sym}
use Rattle.fj_nodes.proofs.Growing.{is_above}
use Rattle.fj_nodes.proofs.graph.Graph.is_above_inputs.Goals as goal

pub returns : goal.returns
returns c = λ all. is_above c.args.self.now c.args.node.0 _ c.args.ranks.now c.inputs.ensures (rw c.rank_of.ensures at (sym c.are_below.ensures ∙ all))
