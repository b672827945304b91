use Rattle.std.proofs.Common.{◌≡◌, ◌<◌, ◌++◌, ◌∷◌, [], arith, length}
use Rattle.std.proofs.lemmas.Grind.{common_steps}
use Rattle.fj_nodes.specs.declared.graph_step.GraphStep.TheVariants.{Begun}
use Rattle.fj_nodes.proofs.Steps.{course_begun, states_begun}
use Rattle.fj_nodes.proofs.progress.Progress.begin.Goals as goal

pub invariant_of-self-2 : goal.invariant_of-self-2
invariant_of-self-2 g c =
    let self = c.args.self.now in
    let items : c.push.new.self.items ≡ self.course.items ++ Begun c.args.node ∷ [] = grind (arith, common_steps) in
    let node = c.requires.node in
    let all = self.all.0 in
    let count = self.states.ok.0 in
    let lt : c.args.node.0 < length self.states.items = omega arith in
    record {
      all = self.all;
      right = rw items (course_begun g.G.NamedGraph.graph self.course.items c.args.node self.right c.requires);
      tied = rw items (states_begun self.course.items self.states.items c.args.node lt c.requires.once self.tied);
    }
