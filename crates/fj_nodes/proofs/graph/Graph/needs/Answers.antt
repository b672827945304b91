use Rattle.std.specs.Prelude.{slice_set}
use Rattle.std.proofs.Common.{◌≡◌, ◌<◌, ◌++◌, ◌∷◌, [], length, ◌∙◌, refl, ap, arith}
use Rattle.std.proofs.lemmas.Grind.{common_steps}
use Rattle.fj_nodes.specs.declared.node.Node.{Node}
use Rattle.fj_nodes.specs.Graphs.{with_input}
use Rattle.fj_nodes.proofs.Growing.{graph_kept, grown, grown_is}
use Rattle.fj_nodes.proofs.graph.Graph.needs.Goals as goal

pub invariant_of-self : goal.invariant_of-self
invariant_of-self c =
    rw (graph_kept c.self.inside.nodes.items c.args.input.0 (record { inputs = c.index_mut.result.now.inputs; users = c.reserve.new.self }) c.index_mut.result.now c.index_mut.ensures.value refl) c.self.invariant

pub returns-then-is_err-clause-same : goal.returns-then-is_err-clause-same
returns-then-is_err-clause-same c =
    graph_kept c.self.inside.nodes.items c.args.input.0 (record { inputs = c.index_mut.result.now.inputs; users = c.reserve.new.self }) c.index_mut.result.now c.index_mut.ensures.value refl ∙ c.self.view_is

pub invariant_of-self-then-is_err-2 : goal.invariant_of-self-then-is_err-2
invariant_of-self-then-is_err-2 c =
    let before = graph_kept c.self.inside.nodes.items c.args.input.0 (record { inputs = c.index_mut.result.now.inputs; users = c.reserve.new.self }) c.index_mut.result.now c.index_mut.ensures.value refl in
    let items : c.push.new.self.items ≡ c.index_mut-2.result.now.inputs.items = grind (arith, common_steps) in
    rw (graph_kept (slice_set c.self.inside.nodes.items c.args.input.0 (record { inputs = c.index_mut.result.now.inputs; users = c.reserve.new.self })) c.args.node.0 (record { inputs = c.push.new.self; users = c.index_mut-2.result.now.users }) c.index_mut-2.result.now c.index_mut-2.ensures.value items, before) c.self.invariant

pub returns-then-is_err-2-clause-same : goal.returns-then-is_err-2-clause-same
returns-then-is_err-2-clause-same c =
    let before = graph_kept c.self.inside.nodes.items c.args.input.0 (record { inputs = c.index_mut.result.now.inputs; users = c.reserve.new.self }) c.index_mut.result.now c.index_mut.ensures.value refl in
    let items : c.push.new.self.items ≡ c.index_mut-2.result.now.inputs.items = grind (arith, common_steps) in
    graph_kept (slice_set c.self.inside.nodes.items c.args.input.0 (record { inputs = c.index_mut.result.now.inputs; users = c.reserve.new.self })) c.args.node.0 (record { inputs = c.push.new.self; users = c.index_mut-2.result.now.users }) c.index_mut-2.result.now c.index_mut-2.ensures.value items ∙ before ∙ c.self.view_is

pub invariant_of-self-2 : goal.invariant_of-self-2
invariant_of-self-2 c =
    let nodes = c.self.inside.nodes.items in
    let first : Node = record { inputs = c.index_mut.result.now.inputs; users = c.reserve.new.self } in
    let second : Node = record { inputs = c.push.new.self; users = c.index_mut-2.result.now.users } in
    let third : Node = record { inputs = c.index_mut-3.result.now.inputs; users = c.push-pushed.new.self } in
    let items : c.push.new.self.items ≡ c.index_mut-2.result.now.inputs.items ++ c.args.input ∷ [] = grind (arith, common_steps) in
    let all = c.self.inside.nodes.ok.0 in
    let lt : c.args.node.0 < length nodes = omega arith in
    let small : c.args.input.0 < length nodes = omega arith in
    grown nodes c.args.node.0 c.args.input first c.index_mut.result.now second c.index_mut-2.result.now third c.index_mut-3.result.now c.index_mut.ensures.value refl c.index_mut-2.ensures.value items c.index_mut-3.ensures.value refl lt small c.self.invariant

pub returns-clause-input : goal.returns-clause-input
returns-clause-input c =
    let nodes = c.self.inside.nodes.items in
    let first : Node = record { inputs = c.index_mut.result.now.inputs; users = c.reserve.new.self } in
    let second : Node = record { inputs = c.push.new.self; users = c.index_mut-2.result.now.users } in
    let third : Node = record { inputs = c.index_mut-3.result.now.inputs; users = c.push-pushed.new.self } in
    let items : c.push.new.self.items ≡ c.index_mut-2.result.now.inputs.items ++ c.args.input ∷ [] = grind (arith, common_steps) in
    let all = c.self.inside.nodes.ok.0 in
    let lt : c.args.node.0 < length nodes = omega arith in
    grown_is nodes c.args.node.0 c.args.input first c.index_mut.result.now second c.index_mut-2.result.now third c.index_mut-3.result.now c.index_mut.ensures.value refl c.index_mut-2.ensures.value items c.index_mut-3.ensures.value refl lt
    ∙ ap (λ graph. with_input graph c.args.node.0 c.args.input.0) c.self.view_is
