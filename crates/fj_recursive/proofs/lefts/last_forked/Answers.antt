use Rattle.std.proofs.Common.{◌∙◌, refl, sym, arith}
use Rattle.fj_recursive.specs.Asks.{task_of}
use Rattle.fj_lazy.proofs.Joins.{forked_more, forked_same}
use Rattle.fj_recursive.proofs.lefts.last_forked.Goals as goal

pub returns-in-Forked-clause-some : goal.returns-in-Forked-clause-some
returns-in-Forked-clause-some g c = sym c.loop-left.invariant.0 ∙ forked_more task_of _ _ c.in-Some.left _ c.in-Some.ensures.items (rw c.in-Forked.is refl)

pub loop-left-preserved-in-Done : goal.loop-left-preserved-in-Done
loop-left-preserved-in-Done g c = (
  sym (forked_same task_of _ _ c.in-Some.left c.in-Some.ensures.items (rw c.in-Done.is refl)) ∙ c.loop-left.invariant.0,
  omega arith,
)
