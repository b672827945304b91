use Rattle.std.proofs.Common.{sym, ◌∙◌}
use Rattle.fj_tree.proofs.Ascents.Paths.{below_at_start, below_above, root_at_end}
use Rattle.fj_tree.proofs.tree.Tree.root.Goals as goal

pub loop-up-init : goal.loop-up-init
loop-up-init c = record { good = c.requires; below = below_at_start c.args.self.now c.args.h }

pub loop-up-preserved : goal.loop-up-preserved
loop-up-preserved c = record {
  good = c.in-Some.ensures.good;
  below = below_above c.args.self.now c.args.h c.loop-up.at c.in-Some.up c.loop-up.invariant.below (sym c.above.ensures.parent ∙ c.in-Some.is) c.in-Some.ensures.smaller;
}

pub returns-clause-root : goal.returns-clause-root
returns-clause-root c = root_at_end c.args.self.now c.args.h c.loop-up.at c.loop-up.invariant.below (sym c.above.ensures.parent ∙ c.in_default.is)
