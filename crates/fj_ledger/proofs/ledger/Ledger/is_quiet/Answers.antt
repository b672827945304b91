use Rattle.std.proofs.Common.{◌≡◌, refl, ap, sym, subst, ◌∙◌, arith}
use Rattle.std.specs.Prelude.{is_none}
use Rattle.std.specs.List.{list_all}
use Rattle.std.proofs.lemmas.Bool.{eq-eqb, ne_eqb}
use Rattle.fj_rules.specs.Pasts.{limit}
use Rattle.fj_rules.specs.Runs.{Past}
use Rattle.fj_queues.specs.Queues.{all_in}
use Rattle.fj_ledger.specs.Holds.{IsLawful}
use Rattle.fj_ledger.proofs.Histories.Lawfuls.{lawful}
use Rattle.fj_ledger.proofs.Histories.Quiet.{quiet_is}
use Rattle.fj_ledger.proofs.ledger.Ledger.is_quiet.Goals as goal

pub returns-then-total-gt0-clause-lawful : goal.returns-then-total-gt0-clause-lawful
returns-then-total-gt0-clause-lawful c = subst (λ (p : Past). IsLawful p.pool (limit p) p.events) c.self.view_is (lawful _ _ _ _ _ _ _ _ c.self.invariant.holds)

pub returns-then-are_empty-clause-lawful : goal.returns-then-are_empty-clause-lawful
returns-then-are_empty-clause-lawful c = subst (λ (p : Past). IsLawful p.pool (limit p) p.events) c.self.view_is (lawful _ _ _ _ _ _ _ _ c.self.invariant.holds)

pub returns-else-are_empty-clause-lawful : goal.returns-else-are_empty-clause-lawful
returns-else-are_empty-clause-lawful c = subst (λ (p : Past). IsLawful p.pool (limit p) p.events) c.self.view_is (lawful _ _ _ _ _ _ _ _ c.self.invariant.holds)

pub returns-then-total-gt0-clause-quiet : goal.returns-then-total-gt0-clause-quiet
returns-then-total-gt0-clause-quiet c =
    let holds = c.self.invariant.holds in
    let is = quiet_is c.self.inside.limits c.self.inside.log.events c.self.inside.queues c.self.inside.stacks c.self.inside.hands.items holds.queues_kept holds.stacks_kept holds.hands_kept in
    let some = ne_eqb (all_in c.self.inside.queues.lists) 0 (omega (arith, c.total.ensures, c.if-total-gt0.true)) in
    rw (← c.self.view_is) (sym (is ∙ rw some refl))

pub returns-then-are_empty-clause-quiet : goal.returns-then-are_empty-clause-quiet
returns-then-are_empty-clause-quiet c =
    let holds = c.self.invariant.holds in
    let is = quiet_is c.self.inside.limits c.self.inside.log.events c.self.inside.queues c.self.inside.stacks c.self.inside.hands.items holds.queues_kept holds.stacks_kept holds.hands_kept in
    let none = eq-eqb (all_in c.self.inside.queues.lists) 0 (omega (arith, c.total.ensures, c.if-total-gt0.false)) in
    let free : c.are_free.result ≡ list_all is_none c.self.inside.hands.items = c.are_free.ensures ∙ ap (list_all is_none) c.deref.ensures.value in
    rw (← c.self.view_is) (sym (is ∙ rw (none, sym c.are_empty.ensures ∙ c.if-are_empty.true) (sym free)))

pub returns-else-are_empty-clause-quiet : goal.returns-else-are_empty-clause-quiet
returns-else-are_empty-clause-quiet c =
    let holds = c.self.invariant.holds in
    let is = quiet_is c.self.inside.limits c.self.inside.log.events c.self.inside.queues c.self.inside.stacks c.self.inside.hands.items holds.queues_kept holds.stacks_kept holds.hands_kept in
    let none = eq-eqb (all_in c.self.inside.queues.lists) 0 (omega (arith, c.total.ensures, c.if-total-gt0.false)) in
    rw (← c.self.view_is) (sym (is ∙ rw (none, sym c.are_empty.ensures ∙ c.if-are_empty.false) (sym c.if-are_empty.false)))
