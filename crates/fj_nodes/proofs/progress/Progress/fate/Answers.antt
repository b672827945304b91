use Rattle.std.proofs.Common.{◌∙◌, sym}
use Rattle.fj_nodes.proofs.Steps.{fate_ended, fate_waiting}
use Rattle.fj_nodes.proofs.progress.Progress.fate.Goals as goal

pub returns-in-Waiting : goal.returns-in-Waiting
returns-in-Waiting g c =
    let self = c.args.self.now in
    fate_waiting g.G.NamedGraph.graph self.course.items self.states.items c.args.node.0 (sym c.state.ensures ∙ c.in-Waiting.is) self.tied

pub returns-in-Ended : goal.returns-in-Ended
returns-in-Ended g c =
    let self = c.args.self.now in
    fate_ended g.G.NamedGraph.graph self.course.items self.states.items c.args.node.0 c.in-Ended.fate (sym c.state.ensures ∙ c.in-Ended.is) self.tied
