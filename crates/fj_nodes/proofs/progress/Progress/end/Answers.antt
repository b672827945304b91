use Rattle.std.proofs.Common.{◌≡◌, ◌∙◌, ◌++◌, ◌∷◌, [], arith, sym}
use Rattle.std.proofs.lemmas.Grind.{common_steps}
use Rattle.fj_nodes.specs.declared.node_state.NodeState.TheVariants.{UnderWay}
use Rattle.fj_nodes.specs.declared.graph_step.GraphStep.TheVariants.{Ended}
use Rattle.fj_nodes.specs.Courses.{state_at}
use Rattle.fj_nodes.proofs.Steps.{course_ended, may_end, states_ended, within}
use Rattle.fj_nodes.proofs.progress.Progress.end.Goals as goal

pub invariant_of-self-2 : goal.invariant_of-self-2
invariant_of-self-2 g c =
    let self = c.args.self.now in
    let items : c.push.new.self.items ≡ self.course.items ++ Ended c.args.node c.args.fate ∷ [] = grind (arith, common_steps) in
    let here : state_at self.states.items c.args.node.0 ≡ UnderWay = sym c.state.ensures ∙ c.in-UnderWay.is in
    record {
      all = self.all;
      right = rw items (course_ended g.G.NamedGraph.graph self.course.items c.args.node c.args.fate self.right (may_end self.course.items self.states.items c.args.node.0 here self.tied));
      tied = rw items (states_ended self.course.items self.states.items c.args.node c.args.fate (within self.states.items c.args.node.0 here) here self.tied);
    }
