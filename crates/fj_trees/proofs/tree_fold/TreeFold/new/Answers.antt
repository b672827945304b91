use Rattle.fj_trees.proofs.Turns.{course_new}
use Rattle.fj_trees.proofs.tree_fold.TreeFold.new.Goals as goal

pub invariant_of-inside-clause-right : goal.invariant_of-inside-clause-right
invariant_of-inside-clause-right g c = course_new c.args.family.now g.F.NamedTree.nodes _ _ c.args.number _ c.requires.same c.new.ensures.tally c.new.ensures.node c.first_child.ensures
