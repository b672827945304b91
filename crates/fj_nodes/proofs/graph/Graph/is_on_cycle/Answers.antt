use Rattle.std.proofs.Common.{◌≡◌, arith, subst}
use Rattle.std.proofs.lemmas.Bool.Decides.{nat_tests}
use Rattle.fj_nodes.specs.Graphs.{HasInput}
use Rattle.fj_nodes.proofs.Growing.{leads_here, leads_on}
use Rattle.fj_nodes.proofs.graph.Graph.is_on_cycle.Goals as goal

pub loop-step-init : goal.loop-step-init
loop-step-init c = leads_here c.args.self.now c.args.node.0

pub loop-step-preserved : goal.loop-step-preserved
loop-step-preserved c = leads_on c.args.self.now c.args.node.0 c.loop-step.at.0 c.in-Some.input.0 c.loop-step.invariant c.in-Some.ensures

pub returns-in-Some : goal.returns-in-Some
returns-in-Some c = λ _.
    let here = c.if-eq.ensures in
    let same : c.in-Some.input.0 ≡ c.args.node.0 = grind (arith, nat_tests) in
    (c.loop-step.at.0, c.loop-step.invariant, subst (HasInput c.args.self.now c.loop-step.at.0) same c.in-Some.ensures)
