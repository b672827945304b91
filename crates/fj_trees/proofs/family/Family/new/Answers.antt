use Rattle.std.proofs.Common.{◌∙◌}
use Rattle.std.proofs.lemmas.List.{with_items_is}
use Rattle.fj_trees.proofs.Joins.{still_nodes, still_tree, still_alone}
use Rattle.fj_trees.proofs.family.Family.new.Goals as goal

pub join-requires-clause-tree : goal.join-requires-clause-tree
join-requires-clause-tree c = still_tree _ _ _ _ c.as_slice.ensures.tree c.as_slice.ensures.nodes c.in_ok-members.ensures c.deref_mut.ensures.value

pub join-requires-clause-alone : goal.join-requires-clause-alone
join-requires-clause-alone c = still_alone _ _ _ _ c.as_slice.ensures.nodes c.in_ok-members.ensures c.deref_mut.ensures.value

pub returns : goal.returns
returns c =
    let members = with_items_is c.in_ok-members.members c.join.new.members (c.join.auto.members ∙ c.deref_mut.ensures.len) in
    rw members (c.join.ensures.nodes ∙ still_nodes _ _ _ _ c.as_slice.ensures.nodes c.in_ok-members.ensures c.deref_mut.ensures.value)
