use Rattle.std.proofs.Common.{rules, ◌≡◌, ap, ◌∙◌, subst}
use Rattle.std.specs.Prelude.{◌==◌}
use Rattle.std.specs.List.{position_from}
use Rattle.std.proofs.lemmas.Bool.Decides.{nat_tests}
use Rattle.std.proofs.lemmas.Iterator.Adapters.{position_from-zero}
use Rattle.std.proofs.lemmas.Iterator.Search.{position_from_yields_List}
use Rattle.std.proofs.lemmas.Iterator.{YieldsList-from_slice}
use Rattle.fj_slots.proofs.aside.Aside.find.Goals as goal

pub returns : goal.returns
returns g c =
    let found = position_from_yields_List (λ x. x.0 == c.args.number) _ _ c.position.result c.position.ensures.ran (YieldsList-from_slice _ c.iter.ensures.rest) (λ x b q k. search (rules, nat_tests)) in
    subst (λ xs. c.position.result ≡ position_from (λ x. x.0 == c.args.number) 0 xs) (c.deref.ensures.value ∙ ap (λ s. s.items) c.self.view_is)
    (found ∙ position_from-zero (λ x. x.0 == c.args.number) c.deref.result.now)
