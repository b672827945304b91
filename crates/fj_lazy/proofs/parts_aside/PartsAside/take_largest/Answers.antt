use Rattle.std.proofs.Common.{◌∙◌, ◌∷◌, ◌++◌, [], ap, arith, refl}
use Rattle.fj_lazy.specs.declared.part.Outer.TheVariants.{Done}
use Rattle.fj_lazy.specs.PartsAside.{around, beside, outside, weight, task_of}
use Rattle.fj_lazy.proofs.Around.{moved_out, nothing_taken, taken_out, weigh_first_as}
use Rattle.fj_lazy.proofs.Joins.{forked_same}
use Rattle.fj_lazy.proofs.parts_aside.PartsAside.take_largest.Goals as goal

pub returns-in_default-clause-none : goal.returns-in_default-clause-none
returns-in_default-clause-none g c =
    λ v. ap (λ l. around (outside g.J.Divide.value g.J.Divide.combined) l (around (beside g.J.Divide.key_of g.J.Divide.value g.J.Divide.combined) c.pop_front.new.self.items v)) c.reserve.ensures.items
    ∙ ap (λ l. around (outside g.J.Divide.value g.J.Divide.combined) c.loop-self.self.outer.items (around (beside g.J.Divide.key_of g.J.Divide.value g.J.Divide.combined) l v)) (nothing_taken c.pop_front.result _ _ c.pop_front.ensures.items c.in_default.not-Some)
    ∙ c.loop-self.invariant.0 v

pub loop-self-preserved : goal.loop-self-preserved
loop-self-preserved g c =
    let more = c.push_reserved.ensures.items ∙ ap (λ l. l ++ Done c.in-Done.left ∷ []) c.reserve.ensures.items in (
      (λ v. moved_out (beside g.J.Divide.key_of g.J.Divide.value g.J.Divide.combined) (outside g.J.Divide.value g.J.Divide.combined) _ _ _ _ c.in-Some.part _ _ v more c.in-Some.ensures.items c.in-Done.is refl ∙ c.loop-self.invariant.0 v),
      omega (arith, weigh_first_as (weight g.J.Divide.size) _ _ c.in-Some.part _ c.in-Some.ensures.items c.in-Done.is, c.loop-self.invariant.1),
      forked_same task_of _ _ _ more refl ∙ c.loop-self.invariant.2,
    )

pub returns-in-Pending-clause-some : goal.returns-in-Pending-clause-some
returns-in-Pending-clause-some g c =
    λ v. ap (λ l. around (outside g.J.Divide.value g.J.Divide.combined) l (g.J.Divide.combined (around (beside g.J.Divide.key_of g.J.Divide.value g.J.Divide.combined) c.pop_front.new.self.items v) (g.J.Divide.value (g.J.Divide.key_of c.in-Pending.half)))) c.reserve.ensures.items
    ∙ taken_out (beside g.J.Divide.key_of g.J.Divide.value g.J.Divide.combined) (outside g.J.Divide.value g.J.Divide.combined) _ _ _ c.in-Some.part _ v _ _ c.in-Some.ensures.items c.in-Pending.is refl (c.loop-self.invariant.0 v)

pub returns-in-Pending-clause-lighter : goal.returns-in-Pending-clause-lighter
returns-in-Pending-clause-lighter g c =
    omega (arith, weigh_first_as (weight g.J.Divide.size) _ _ c.in-Some.part _ c.in-Some.ensures.items c.in-Pending.is, c.loop-self.invariant.1)

pub returns-clause-none : goal.returns-clause-none
returns-clause-none g c =
    λ v. ap (λ l. around (outside g.J.Divide.value g.J.Divide.combined) l (around (beside g.J.Divide.key_of g.J.Divide.value g.J.Divide.combined) c.loop-self.self.inner.items v)) c.reserve.ensures.items ∙ c.loop-self.invariant.0 v
