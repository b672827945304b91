use Rattle.std.proofs.Common.{◌+◌, ◌*◌, ◌%◌, arith, ap, refl}
use Rattle.fj_trees.proofs.Sums.{tally_more, weight_small, next_after, fewer_left}
use Rattle.fj_trees.proofs.child_sum.ChildSum.add.Goals as goal

pub overflow_add-result : goal.overflow_add-result
overflow_add-result c = let small = weight_small c.args.family.now c.args.self c.args.child c.next_sibling.ensures.tree c.requires.tally c.requires.child in omega arith

pub returns-clause-tally : goal.returns-clause-tally
returns-clause-tally c =
    tally_more c.args.family.now c.args.self c.args.child c.args.value _ _ _ c.requires.tally c.requires.child c.requires.value c.next_sibling.ensures.next refl
    (ap (λ k. (c.args.self.sum + k * c.args.value) % 1000000007) c.from.ensures)

pub returns-clause-child : goal.returns-clause-child
returns-clause-child c = next_after c.args.family.now c.args.self c.args.child _ c.requires.tally c.requires.child c.next_sibling.ensures.next

pub returns-clause-nearer : goal.returns-clause-nearer
returns-clause-nearer c = fewer_left c.args.family.now c.args.self c.args.child _ c.requires.tally c.requires.child c.next_sibling.ensures.next
