use Rattle.std.proofs.Common.{◌∙◌, [], ap, arith, refl, sym}
use Rattle.fj_lazy.specs.declared.part.Inner.TheVariants.{Done, Pending}
use Rattle.fj_lazy.proofs.Stops.{lighter_left, lighter_right, stops_around}
use Rattle.fj_lazy.proofs.descent.Descent.+descend.Goals as goal

pub returns-in_default-clause-stop : goal.returns-in_default-clause-stop
returns-in_default-clause-stop g t c =
    stops_around g.J.Divide.key_of g.J.Divide.value g.J.Divide.leaf_of g.J.Divide.combined _ _ (Pending c.in-Ok.right) (g.J.Divide.value (g.J.Divide.key_of c.in-Ok.left)) _ _ c.in_default.ensures.stop c.push_reserved.ensures.items (sym c.in-Ok.ensures.halves)

pub returns-in_default-clause-weight : goal.returns-in_default-clause-weight
returns-in_default-clause-weight g t c =
    let less = lighter_left g.J.Divide.size _ _ (Pending c.in-Ok.right) _ _ _ _ c.in_default.ensures.weight c.push_reserved.ensures.items refl c.in-Ok.ensures.smaller.0 c.in-Ok.ensures.smaller.1 in omega (arith, less)

pub returns-in_default-clause-lighter : goal.returns-in_default-clause-lighter
returns-in_default-clause-lighter g t c =
    λ some. lighter_left g.J.Divide.size _ _ (Pending c.in-Ok.right) _ _ _ _ c.in_default.ensures.weight c.push_reserved.ensures.items refl c.in-Ok.ensures.smaller.0 c.in-Ok.ensures.smaller.1

pub returns-then-is_final-clause-value : goal.returns-then-is_final-clause-value
returns-then-is_final-clause-value g t c =
    sym (c.is_final.ensures c.if-is_final.true [] (g.J.Divide.value (g.J.Divide.key_of c.in-Ok.right)))
    ∙ ap (λ v. g.J.Divide.combined v (g.J.Divide.value (g.J.Divide.key_of c.in-Ok.right))) c.in-Some.ensures.value
    ∙ sym c.in-Ok.ensures.halves

pub returns-in_default-descend-clause-stop : goal.returns-in_default-descend-clause-stop
returns-in_default-descend-clause-stop g t c =
    stops_around g.J.Divide.key_of g.J.Divide.value g.J.Divide.leaf_of g.J.Divide.combined _ _ (Done c.in-Some.value) (g.J.Divide.value (g.J.Divide.key_of c.in-Ok.right)) _ _ c.in_default-descend.ensures.stop c.push_reserved-in_default-descend.ensures.items
    (ap (λ v. g.J.Divide.combined v (g.J.Divide.value (g.J.Divide.key_of c.in-Ok.right))) c.in-Some.ensures.value ∙ sym c.in-Ok.ensures.halves)

pub returns-in_default-descend-clause-weight : goal.returns-in_default-descend-clause-weight
returns-in_default-descend-clause-weight g t c =
    let less = lighter_right g.J.Divide.size _ _ (Done c.in-Some.value) _ _ _ _ c.in_default-descend.ensures.weight c.push_reserved-in_default-descend.ensures.items refl c.in-Ok.ensures.smaller.0 c.in-Ok.ensures.smaller.1 in omega (arith, less)

pub returns-in_default-descend-clause-lighter : goal.returns-in_default-descend-clause-lighter
returns-in_default-descend-clause-lighter g t c =
    λ some. lighter_right g.J.Divide.size _ _ (Done c.in-Some.value) _ _ _ _ c.in_default-descend.ensures.weight c.push_reserved-in_default-descend.ensures.items refl c.in-Ok.ensures.smaller.0 c.in-Ok.ensures.smaller.1
