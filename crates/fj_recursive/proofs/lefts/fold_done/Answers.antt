use Rattle.std.proofs.Common.{arith, ◌∙◌, sym, refl}
use Rattle.fj_recursive.specs.Recursions.{left_value}
use Rattle.fj_recursive.specs.Asks.{task_of}
use Rattle.fj_recursive.proofs.Tails.{fold_step}
use Rattle.fj_lazy.proofs.Joins.{forked_more, forked_same}
use Rattle.fj_recursive.proofs.lefts.fold_done.Goals as goal

pub loop-left-preserved : goal.loop-left-preserved
loop-left-preserved g c = (
  c.loop-left.invariant.0
      ∙ fold_step g.J.Divide.combined (left_value g.J.Divide.value) _ _ c.in-Some.left c.loop-left.value _ c.in-Some.ensures.items (rw c.in-Done.is c.combine-value.ensures),
  omega arith,
  c.loop-left.invariant.2 ∙ forked_same task_of _ _ c.in-Some.left c.in-Some.ensures.items (rw c.in-Done.is refl),
)

pub returns-in-Forked-clause-one : goal.returns-in-Forked-clause-one
returns-in-Forked-clause-one g c =
    sym (
    c.loop-left.invariant.0
    ∙ fold_step g.J.Divide.combined (left_value g.J.Divide.value) _ _ c.in-Some.left c.loop-left.value _ c.in-Some.ensures.items (rw c.in-Forked.is refl)
    )

pub returns-in-Forked-clause-last : goal.returns-in-Forked-clause-last
returns-in-Forked-clause-last g c =
    c.loop-left.invariant.2 ∙ forked_more task_of _ _ c.in-Some.left _ c.in-Some.ensures.items (rw c.in-Forked.is refl)
