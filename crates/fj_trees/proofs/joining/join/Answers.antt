use Rattle.std.proofs.Common.{◌≡◌, ◌+◌, ◌-◌, ◌<◌, arith, length}
use Rattle.std.proofs.lemmas.List.{length-map}
use Rattle.fj_trees.specs.Families.{IsJoined, nodes_of}
use Rattle.fj_trees.proofs.Joins.{start_all, step_root, step_child, parent_is, tree_small, few_joined}
use Rattle.fj_trees.proofs.joining.join.Goals as goal
use Rattle.fj_trees.proofs.joining.join.Goals.{in-Some, in_default}

pub loop-done-init : goal.loop-done-init
loop-done-init c = start_all _ c.requires.alone

pub join_child-requires-clause-small : goal.join_child-requires-clause-small
join_child-requires-clause-small c =
    let all = length-map c.args.members.now (λ m. m.node) in
    let small = tree_small _ c.requires.tree in
    let more = c.loop-done-test.true in
    omega arith

pub join_child-requires-clause-parent : goal.join_child-requires-clause-parent
join_child-requires-clause-parent c =
    let all = length-map c.args.members.now (λ m. m.node) in
    let more = c.loop-done-test.true in
    (parent_is (nodes_of c.args.members.now) _ _ _ c.requires.tree.0 (omega arith) c.in-Some.is c.loop-done.invariant.all).1

pub join_child-requires-clause-few : goal.join_child-requires-clause-few
join_child-requires-clause-few c =
    let all = length-map c.args.members.now (λ m. m.node) in
    let more = c.loop-done-test.true in
    let next : length (nodes_of c.args.members.now) - c.loop-done.done ≡ (length (nodes_of c.args.members.now) - (c.loop-done.done + 1)) + 1 = omega arith in
    let so_far : IsJoined (nodes_of c.args.members.now) ((length (nodes_of c.args.members.now) - (c.loop-done.done + 1)) + 1) c.loop-done.members = rw next at c.loop-done.invariant in
    let below = (parent_is (nodes_of c.args.members.now) _ _ _ c.requires.tree.0 (omega arith) c.in-Some.is c.loop-done.invariant.all).1 in
    few_joined (nodes_of c.args.members.now) _ _ _ c.requires.tree (omega arith) so_far

pub loop-done-preserved : goal.loop-done-preserved
loop-done-preserved c =
    let all = length-map c.args.members.now (λ m. m.node) in
    let more = c.loop-done-test.true in
    let next : length (nodes_of c.args.members.now) - c.loop-done.done ≡ (length (nodes_of c.args.members.now) - (c.loop-done.done + 1)) + 1 = omega arith in
    let so_far : IsJoined (nodes_of c.args.members.now) ((length (nodes_of c.args.members.now) - (c.loop-done.done + 1)) + 1) c.loop-done.members = rw next at c.loop-done.invariant in
    let within : length (nodes_of c.args.members.now) - (c.loop-done.done + 1) < length (nodes_of c.args.members.now) = omega arith in
    elim c.match-members-child.branch [
      | in-Some w ↦ rw w.members-is (step_child (nodes_of c.args.members.now) _ _ _ _ _ c.requires.tree.0 within (omega arith) w.in-Some.is w.join_child.ensures so_far)
      | in_default w ↦ rw w.members-is (step_root (nodes_of c.args.members.now) _ _ _ within (omega arith) w.in_default.is so_far)
    ]
