use Rattle.std.proofs.Common.{◌∙◌, [], refl, sym}
use Rattle.fj_lazy.specs.PartsAside.{outside, task_of}
use Rattle.fj_lazy.proofs.Around.{around_step}
use Rattle.fj_lazy.proofs.Joins.{forked_more, forked_same}
use Rattle.fj_lazy.proofs.parts_aside.PartsAside.climb_outer.Goals as goal

pub returns-then-is_final-clause-value : goal.returns-then-is_final-clause-value
returns-then-is_final-clause-value g c = (
  c.loop-part.invariant.2 ∙ c.requires,
  around_step (outside g.J.Divide.value g.J.Divide.combined) _ _ c.in-Some.part _ c.loop-part.value _ _ c.loop-part.invariant.0 c.in-Some.ensures.items c.in-Forked.is (sym (c.is_final.ensures c.if-is_final.true [] _)),
)

pub returns-then-is_final-clause-joins : goal.returns-then-is_final-clause-joins
returns-then-is_final-clause-joins g c = sym c.loop-part.invariant.1 ∙ forked_more task_of _ _ c.in-Some.part _ c.in-Some.ensures.items (rw c.in-Forked.is refl)

pub returns-in-Forked-clause-value : goal.returns-in-Forked-clause-value
returns-in-Forked-clause-value g c = (
  c.loop-part.invariant.2 ∙ c.requires,
  around_step (outside g.J.Divide.value g.J.Divide.combined) _ _ c.in-Some.part _ c.loop-part.value _ _ c.loop-part.invariant.0 c.in-Some.ensures.items c.in-Forked.is refl,
)

pub returns-in-Forked-clause-joins : goal.returns-in-Forked-clause-joins
returns-in-Forked-clause-joins g c = sym c.loop-part.invariant.1 ∙ forked_more task_of _ _ c.in-Some.part _ c.in-Some.ensures.items (rw c.in-Forked.is refl)

pub loop-part-preserved : goal.loop-part-preserved
loop-part-preserved g c = (
  around_step (outside g.J.Divide.value g.J.Divide.combined) _ _ c.in-Some.part _ c.loop-part.value _ _ c.loop-part.invariant.0 c.in-Some.ensures.items c.in-Done.is c.combine-value.ensures,
  sym (forked_same task_of _ _ c.in-Some.part c.in-Some.ensures.items (rw c.in-Done.is refl)) ∙ c.loop-part.invariant.1,
  c.loop-part.invariant.2,
)
