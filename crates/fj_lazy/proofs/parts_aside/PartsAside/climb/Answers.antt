use Rattle.std.proofs.Common.{◌∙◌, ap, arith, [], refl, sym}
use Rattle.fj_lazy.specs.PartsAside.{around, beside, outside, weight}
use Rattle.fj_lazy.proofs.Around.{around_step, around_changed, weigh_taken_as}
use Rattle.fj_lazy.proofs.parts_aside.PartsAside.climb.Goals as goal

pub returns-in-Pending-clause-value : goal.returns-in-Pending-clause-value
returns-in-Pending-clause-value g c =
    ap (around (outside g.J.Divide.value g.J.Divide.combined) c.loop-part.self.outer.items)
    (around_changed (beside g.J.Divide.key_of g.J.Divide.value g.J.Divide.combined) _ _ _ c.in-Some.part _ _ c.loop-part.value _ _ c.loop-part.invariant.0 c.in-Some.ensures.items c.in-Pending.is c.push_back_reserved.ensures.items refl)
    ∙ ap (λ l. around (outside g.J.Divide.value g.J.Divide.combined) l (around (beside g.J.Divide.key_of g.J.Divide.value g.J.Divide.combined) c.args.self.now.inner.items c.args.value)) c.loop-part.invariant.2

pub returns-in-Pending-clause-lighter : goal.returns-in-Pending-clause-lighter
returns-in-Pending-clause-lighter g c =
    omega (
      arith,
      weigh_taken_as (weight g.J.Divide.size) _ _ c.in-Some.part _ c.in-Some.ensures.items c.in-Pending.is,
      weigh_taken_as (weight g.J.Divide.size) _ _ _ _ c.push_back_reserved.ensures.items refl,
      c.loop-part.invariant.1,
    )

pub loop-part-preserved-then-is_final : goal.loop-part-preserved-then-is_final
loop-part-preserved-then-is_final g c = (
  around_step (beside g.J.Divide.key_of g.J.Divide.value g.J.Divide.combined) _ _ c.in-Some.part _ c.loop-part.value _ _ c.loop-part.invariant.0 c.in-Some.ensures.items c.in-Pending.is (sym (c.is_final.ensures c.if-is_final.true [] _)),
  omega (arith, weigh_taken_as (weight g.J.Divide.size) _ _ c.in-Some.part _ c.in-Some.ensures.items c.in-Pending.is, c.loop-part.invariant.1),
  c.loop-part.invariant.2,
)

pub loop-part-preserved : goal.loop-part-preserved
loop-part-preserved g c = (
  around_step (beside g.J.Divide.key_of g.J.Divide.value g.J.Divide.combined) _ _ c.in-Some.part _ c.loop-part.value _ _ c.loop-part.invariant.0 c.in-Some.ensures.items c.in-Done.is c.combine-value.ensures,
  omega (arith, weigh_taken_as (weight g.J.Divide.size) _ _ c.in-Some.part _ c.in-Some.ensures.items c.in-Done.is, c.loop-part.invariant.1),
  c.loop-part.invariant.2,
)
