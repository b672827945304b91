use Rattle.std.proofs.Common.{◌∙◌, ap}
use Rattle.fj_nodes.specs.Graphs.{inputs_at}
use Rattle.fj_nodes.proofs.Steps.{inputs_done}
use Rattle.fj_nodes.proofs.progress.Progress.inputs_are_done.Goals as goal

pub returns : goal.returns
returns g c =
    c.are_done.ensures
    ∙ inputs_done g.G.NamedGraph.graph c.args.self.now.course.items c.args.node.0 _ (c.inputs.ensures ∙ ap (λ graph. inputs_at graph c.args.node.0) c.requires.same)
