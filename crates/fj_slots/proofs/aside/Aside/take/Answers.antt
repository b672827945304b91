use Rattle.std.proofs.Common.{◌≡◌, Some, refl, sym, ap, ◌∙◌, subst, arith}
use Rattle.std.specs.Prelude.{◌==◌}
use Rattle.std.specs.List.{position_from}
use Rattle.fj_slots.specs.Aside.{Without}
use Rattle.fj_slots.proofs.Found.{not_found, found_within, taken_out}
use Rattle.fj_slots.proofs.aside.Aside.take.Goals as goal

pub remove-item-requires : goal.remove-item-requires
remove-item-requires g c = omega (arith, c.self.inside.items.ok, found_within c.args.number c.in-Some.at _ (subst (λ xs. position_from (λ x. x.0 == c.args.number) 0 xs ≡ Some c.in-Some.at) (ap (λ s. s.items) (sym c.self.view_is)) (sym c.find.ensures ∙ c.in-Some.is)))

pub returns-in-Some-clause-taken : goal.returns-in-Some-clause-taken
returns-in-Some-clause-taken g c =
    let place = subst (λ xs. position_from (λ x. x.0 == c.args.number) 0 xs ≡ Some c.in-Some.at) (ap (λ s. s.items) (sym c.self.view_is)) (sym c.find.ensures ∙ c.in-Some.is) in
    subst (λ xs. Without xs c.args.number c.remove-item.result.1 c.remove-item.new.self.items) (ap (λ s. s.items) c.self.view_is)
    (rw c.remove-item.ensures.items (taken_out c.args.number c.in-Some.at _ c.remove-item.result place c.remove-item.ensures.value))

pub returns-in-None-clause-taken : goal.returns-in-None-clause-taken
returns-in-None-clause-taken g c = (refl, not_found c.args.number 0 _ (sym c.find.ensures ∙ c.in-None.is))
