use Rattle.std.proofs.Common.{◌≡◌, [], ◌∷◌, ◌++◌, ap, sym, ◌∙◌, subst}
use Rattle.fj_rules.specs.declared.event.Event.{Event}
use Rattle.fj_rules.specs.Hooks.{hooks}
use Rattle.fj_rules.specs.Pasts.{Past}
use Rattle.fj_rules.specs.Follows.{Follows}
use Rattle.fj_checker.proofs.Remembering.{remembers_more, told_known}
use Rattle.fj_checker.proofs.checker.Checker.append.Goals as goal

pub know-requires : goal.know-requires
know-requires c =
    let past : Past = c.self.inside.ledger in
    let follows : Follows past c.args.event.now = subst (λ (p : Past). Follows p c.args.event.now) (sym c.self.view_is) c.requires in
    told_known past.pool past.events c.args.event.now c.self.inside.known.items c.is_stopped-lawful.ensures.lawful.allowed c.self.invariant.count follows.allowed follows.names

pub invariant_of-self-2 : goal.invariant_of-self-2
invariant_of-self-2 c =
    let past : Past = c.self.inside.ledger in
    let e : Event = c.args.event.now in
    let follows : Follows past e = subst (λ (p : Past). Follows p e) (sym c.self.view_is) c.requires in
    let last : c.last_after-last_worker.result ≡ (hooks (past.events ++ e ∷ [])).last_worker = c.last_after-last_worker.ensures ∙ ap (λ (p : Past). (hooks (p.events ++ e ∷ [])).last_worker) (sym c.self.view_is) in
    let law = c.is_stopped-lawful.ensures.lawful in
    rw (c.go_on.ensures, c.in_ok-know.ensures.ok) (remembers_more past.pool past.events e c.self.inside.known.items c.self.inside.newest c.self.inside.last_worker _ law.allowed law.climbs follows.allowed follows.names c.self.invariant last)
