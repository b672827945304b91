use Rattle.std.proofs.Common.{◌∙◌}
use Rattle.fj_trees.proofs.Sums.{tally_new}
use Rattle.fj_trees.proofs.child_sum.ChildSum.new.Goals as goal

pub returns-clause-tally : goal.returns-clause-tally
returns-clause-tally c = tally_new c.args.family.now c.args.node _ _ c.own_value.ensures.tree c.requires c.first_child.ensures (c.from.ensures ∙ c.own_value.ensures.value)
