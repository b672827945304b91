use Rattle.std.proofs.Common.{ap, refl}
use Rattle.fj_trees.specs.declared.fold_progress.FoldStage.TheVariants.{Forking}
use Rattle.fj_trees.proofs.Turns.{course_forked, forks_fewer, next_in_turn}
use Rattle.fj_trees.proofs.tree_fold.FoldState.fork_child.Goals as goal

pub invariant_of-self-clause-right : goal.invariant_of-self-clause-right
invariant_of-self-clause-right g c =
    let self = c.args.self.now in
    course_forked self.family.now g.F.NamedTree.nodes _ self.course c.args.child _ self.same self.right c.requires.next c.next_sibling-self.ensures.next

pub returns-clause-nearer : goal.returns-clause-nearer
returns-clause-nearer g c =
    let self = c.args.self.now in
    forks_fewer self.family.now g.F.NamedTree.nodes self.course c.args.child _ self.same self.right c.requires.next c.next_sibling-self.ensures.next

pub returns-clause-forks : goal.returns-clause-forks
returns-clause-forks g c =
    let self = c.args.self.now in
    let after = next_in_turn self.family.now g.F.NamedTree.nodes self.course c.args.child _ self.same self.right c.requires.next c.next_sibling-self.ensures.next in
    rw c.requires.next (c.requires.body, refl, ap (λ n. record self.course { stage = Forking c.args.me; next = n }) after)
