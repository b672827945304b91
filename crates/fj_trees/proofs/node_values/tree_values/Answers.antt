use Rattle.std.proofs.Common.{◌≡◌, ◌+◌, ◌-◌, ◌<◌, ◌∙◌, ap, arith, length, slice_index}
use Rattle.std.proofs.lemmas.Grind.{get_or_default_zero}
use Rattle.std.proofs.lemmas.List.{with_items_is, length-set}
use Rattle.fj_trees.specs.TreeSums.{IsSummed}
use Rattle.fj_trees.specs.TreeValues.{node_at}
use Rattle.fj_trees.proofs.TreeSums.{parent_inside, summed_all, step_child, step_root}
use Rattle.fj_trees.proofs.node_values.tree_values.Goals as goal
use Rattle.fj_trees.proofs.node_values.tree_values.Goals.{in-Some, in_default}

pub add_child-requires-clause-plain : goal.add_child-requires-clause-plain
add_child-requires-clause-plain c = parent_inside c.node-node.result _ _ _ _ _ _ c.node-node.ensures.good c.in-Some.is c.loop-done-test.true (ap length c.as_slice-count.ensures.nodes) c.loop-done.invariant.all.1 c.deref_mut.ensures.value

pub add_child-requires-clause-weighted : goal.add_child-requires-clause-weighted
add_child-requires-clause-weighted c = parent_inside c.node-node.result _ _ _ _ _ _ c.node-node.ensures.good c.in-Some.is c.loop-done-test.true (ap length c.as_slice-count.ensures.nodes) c.loop-done.invariant.all.2 c.deref_mut-in-Some.ensures.value

pub loop-done-preserved : goal.loop-done-preserved
loop-done-preserved c =
    let all : length c.as_slice-count.result.now ≡ length c.args.nodes.now = ap length c.as_slice-count.ensures.nodes in
    let here : length c.as_slice-count.result.now - 1 - c.loop-done.done ≡ length c.args.nodes.now - (c.loop-done.done + 1) = omega arith in
    let next : length c.args.nodes.now - c.loop-done.done ≡ (length c.args.nodes.now - (c.loop-done.done + 1)) + 1 = (let more = c.loop-done-test.true in omega arith) in
    let so_far : IsSummed c.args.nodes.now ((length c.args.nodes.now - (c.loop-done.done + 1)) + 1) c.loop-done.values.items c.loop-done.plain.items c.loop-done.weighted.items = rw next at c.loop-done.invariant in
    let good = c.as_slice-count.ensures.tree.0 in
    let within : length c.args.nodes.now - (c.loop-done.done + 1) < length c.args.nodes.now = (let more = c.loop-done-test.true in omega arith) in
    let node : c.node-node.result ≡ node_at c.args.nodes.now (length c.args.nodes.now - (c.loop-done.done + 1)) = rw here at c.node-node.ensures.node in
    let inside : length c.as_slice-count.result.now - 1 - c.loop-done.done < length c.loop-done.weighted.items = (let as_long = so_far.all.2 in omega arith) in
    let weight : c.index.result.now ≡ slice_index c.loop-done.weighted.items (length c.as_slice-count.result.now - 1 - c.loop-done.done) = c.index.ensures ∙ get_or_default_zero _ _ _ inside in
    elim c.match-node.branch [
      | in-Some w ↦
          let plain = with_items_is c.loop-done.plain w.add_child.new.plain (ap length w.add_child.ensures.plain ∙ length-set _ _ _ ∙ w.deref_mut.ensures.len) in
          let weighted = with_items_is c.loop-done.weighted w.add_child.new.weighted (ap length w.add_child.ensures.weighted ∙ length-set _ _ _ ∙ w.deref_mut-in-Some.ensures.len) in
          rw (w.plain-is, w.weighted-is, plain, weighted) (step_child _ c.node-node.result _ _ _ _ _ w.in-Some.parent _ _ _ _ _ _ _ good within here node w.in-Some.is c.sum_modulo-value.ensures c.from.ensures weight w.deref_mut.ensures.value w.deref_mut-in-Some.ensures.value w.add_child.ensures.plain w.add_child.ensures.weighted so_far)
      | in_default w ↦ rw (w.plain-is, w.weighted-is) (step_root _ c.node-node.result _ _ _ _ _ _ _ _ good within here node w.in_default.is c.sum_modulo-value.ensures c.from.ensures weight so_far)
    ]

pub returns : goal.returns
returns c =
    let all : length c.as_slice-count.result.now ≡ length c.args.nodes.now = ap length c.as_slice-count.ensures.nodes in
    summed_all c.args.nodes.now (length c.args.nodes.now - c.loop-done.done) _ _ _ c.as_slice-count.ensures.tree.0 (let done = c.loop-done-test.false in omega arith) c.loop-done.invariant
