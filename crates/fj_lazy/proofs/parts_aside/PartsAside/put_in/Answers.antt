use Rattle.std.proofs.Common.{◌∙◌, ap, arith, sym}
use Rattle.fj_lazy.specs.PartsAside.{around, beside, inside, weight}
use Rattle.fj_lazy.proofs.Around.{around_taken, inside_taken, weigh_taken}
use Rattle.fj_lazy.proofs.parts_aside.PartsAside.put_in.Goals as goal

pub loop-part-preserved : goal.loop-part-preserved
loop-part-preserved g c = (
  (λ v. around_taken (beside g.J.Divide.key_of g.J.Divide.value g.J.Divide.combined) _ _ c.in-Some.part _ c.push_back_reserved.ensures.items
      ∙ ap (around (beside g.J.Divide.key_of g.J.Divide.value g.J.Divide.combined) c.loop-part.self.inner.items) (sym (inside_taken (beside g.J.Divide.key_of g.J.Divide.value g.J.Divide.combined) _ _ c.in-Some.part _ c.in-Some.ensures.items))
      ∙ c.loop-part.invariant.0 v),
  omega (
    arith,
    weigh_taken (weight g.J.Divide.size) _ _ c.in-Some.part c.push_back_reserved.ensures.items,
    weigh_taken (weight g.J.Divide.size) _ _ c.in-Some.part c.in-Some.ensures.items,
    c.loop-part.invariant.1,
  ),
  c.loop-part.invariant.2,
  omega (arith, c.loop-part.invariant.3, c.push_back_reserved.ensures.len, c.push_back_reserved.ensures.capacity, c.in-Some.ensures.fewer),
)

pub returns-clause-value : goal.returns-clause-value
returns-clause-value g c = λ v. ap (λ l. around (beside g.J.Divide.key_of g.J.Divide.value g.J.Divide.combined) c.loop-part.self.inner.items (inside (beside g.J.Divide.key_of g.J.Divide.value g.J.Divide.combined) l v)) (sym c.in_default.ensures.none) ∙ c.loop-part.invariant.0 v
