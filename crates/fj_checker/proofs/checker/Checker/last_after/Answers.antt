use Rattle.std.proofs.Common.{sym, ◌∙◌, subst}
use Rattle.fj_rules.specs.declared.event.Event.{Event}
use Rattle.fj_rules.specs.declared.event.Event.TheVariants.{Hooked}
use Rattle.fj_rules.specs.Pasts.{Past}
use Rattle.fj_rules.specs.Follows.{Follows}
use Rattle.fj_checker.specs.Remembered.{IsHandOf}
use Rattle.fj_checker.proofs.Remembering.{last_same, last_of_hook}
use Rattle.fj_checker.proofs.checker.Checker.last_after.Goals as goal

pub returns-in-Hooked : goal.returns-in-Hooked
returns-in-Hooked c =
    let past : Past = c.self.inside.ledger in
    let e = Hooked c.in-Hooked.field-0 in
    let follows : Follows past e = subst (λ (e : Event). Follows past e) c.in-Hooked.is (subst (λ (p : Past). Follows p c.args.event.now) (sym c.self.view_is) c.requires.follows) in
    let from : IsHandOf past.pool past.events e c.args.hand.now =
    subst (λ (e : Event). IsHandOf past.pool past.events e c.args.hand.now) c.in-Hooked.is (subst (λ (p : Past). IsHandOf p.pool p.events c.args.event.now c.args.hand.now) (sym c.self.view_is) c.requires.hand) in
    rw (← c.self.view_is, c.in-Hooked.is) (last_of_hook past.pool past.events c.in-Hooked.field-0 c.args.hand.now follows.allowed (c.is_stopped-lawful.ensures.lawful.once c.in-Hooked.field-0) from)

pub returns-in_default : goal.returns-in_default
returns-in_default c =
    let past : Past = c.self.inside.ledger in
    rw (← c.self.view_is) (c.self.invariant.last ∙ last_same past.events c.args.event.now c.in_default.not-Hooked)
