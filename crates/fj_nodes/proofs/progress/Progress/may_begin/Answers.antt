use Rattle.std.proofs.Common.{◌≡◌, ◌<◌, ◌∙◌, arith, length, sym}
use Rattle.fj_nodes.proofs.Steps.{may_begin}
use Rattle.fj_nodes.proofs.progress.Progress.may_begin.Goals as goal

pub returns : goal.returns
returns g c = λ all.
    let self = c.args.self.now in
    let vec = self.states.ok.0 in
    let all_states = self.all.0 in
    let size = c.len.ensures in
    let count : length self.states.items ≡ length g.G.NamedGraph.graph = omega arith in
    let lt : c.args.node.0 < length self.states.items = omega arith in
    may_begin g.G.NamedGraph.graph self.course.items self.states.items c.args.node.0 count lt (sym c.state.ensures ∙ c.in-Waiting.is) (sym c.inputs_are_done.ensures ∙ all) self.tied
