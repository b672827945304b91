use Rattle.fj_nodes.proofs.Growing.{leads_here, leads_on}
use Rattle.fj_nodes.proofs.graph.Graph.far.Goals as goal

pub loop-step-init : goal.loop-step-init
loop-step-init c = leads_here c.args.self.now c.args.node.0

pub loop-step-preserved : goal.loop-step-preserved
loop-step-preserved c = leads_on c.args.self.now c.args.node.0 c.loop-step.at.0 c.in-Some.input.0 c.loop-step.invariant c.in-Some.ensures
