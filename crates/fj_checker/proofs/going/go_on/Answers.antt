use Rattle.std.proofs.Common.{ap, ◌∙◌, subst}
use Rattle.fj_rules.specs.declared.event.Event.{Event}
use Rattle.fj_rules.specs.declared.event.Event.TheVariants.{End, Dec, Pass}
use Rattle.fj_rules.specs.Tasks.{is_kept}
use Rattle.fj_rules.specs.Climbs.{Counted, Fires}
use Rattle.fj_rules.specs.Follows.{Follows}
use Rattle.fj_checker.proofs.Told.{kept_by_arrival, end_worker}
use Rattle.fj_checker.proofs.going.go_on.Goals as goal

pub end_body-requires-clause-worker : goal.end_body-requires-clause-worker
end_body-requires-clause-worker c =
    let now = c.args.ledger.now in
    let follows : Follows now (End c.in-End.t c.in-End.w) = subst (λ (e : Event). Follows now e) c.in-End.is c.requires.follows in
    end_worker now.pool now.events c.in-End.t c.in-End.w c.is_stopped-lawful.ensures.lawful.allowed follows.allowed

pub count_down-requires-clause-kept : goal.count_down-requires-clause-kept
count_down-requires-clause-kept c =
    let now = c.args.ledger.now in
    let follows : Follows now (Dec c.in-Dec.c) = subst (λ (e : Event). Follows now e) c.in-Dec.is c.requires.follows in
    ap (is_kept now.events) c.named-in-Dec.ensures ∙ kept_by_arrival now.pool now.events c.in-Dec.c Counted c.is_stopped-lawful.ensures.lawful.allowed follows.allowed follows.names (λ same. absurd cc)

pub pass-requires-clause-kept : goal.pass-requires-clause-kept
pass-requires-clause-kept c =
    let now = c.args.ledger.now in
    let follows : Follows now (Pass c.in-Pass.c) = subst (λ (e : Event). Follows now e) c.in-Pass.is c.requires.follows in
    ap (is_kept now.events) c.named-in-Pass.ensures ∙ kept_by_arrival now.pool now.events c.in-Pass.c Fires c.is_stopped-lawful.ensures.lawful.allowed follows.allowed follows.names (λ same. absurd cc)
