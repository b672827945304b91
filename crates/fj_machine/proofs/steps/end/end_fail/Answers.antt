use Rattle.fj_rules.specs.declared.step.Step.TheVariants as step
use Rattle.std.proofs.Common.{◌≡◌, ◌+◌, ◌∷◌, ◌++◌, ℕ, List, [], length, true, refl, ap, sym, ◌∙◌, subst}
use Rattle.fj_rules.specs.declared.event.Event.{Event}
use Rattle.fj_rules.specs.declared.event.Event.TheVariants as event
use Rattle.fj_rules.specs.declared.step.Ending.TheVariants.{Fail}
use Rattle.fj_rules.specs.Tasks.{is_kept}
use Rattle.fj_rules.specs.Climbs.{relayed}
use Rattle.fj_rules.specs.Allowed.{AllowedFrom}
use Rattle.fj_rules.specs.Answers.{after_end}
use Rattle.fj_rules.specs.Runs.{Past, grown}
use Rattle.fj_rules.proofs.Events.Settling.{settles}
use Rattle.fj_machine.proofs.ByStep.EndSteps.{running_kept, end_full, end_made, may_end, ended_kept}
use Rattle.fj_machine.proofs.ByStep.SettleSteps.{fail_events, fail_relayed, settles_count}
use Rattle.fj_machine.proofs.Outcomes.Results.{exits_full}
use Rattle.fj_machine.proofs.steps.end.end_fail.Goals as goal
use Rattle.fj_machine.proofs.steps.end.end_fail.Goals.{After-room_for}

-- how many events there are
count : (c : After-room_for) → 1 + length (after_end (c.args.ledger.now.events ++ event.End c.args.t.serial c.args.w ∷ []) c.args.t.serial (Fail c.args.code)) ≡ 1 + c.relay_look-count.result
count c =
    let h = c.args.ledger.now.events in
    ap (λ (es : List Event). 1 + length es) (fail_events h c.args.w c.args.t.serial c.args.code)
    ∙ ap (λ (n : ℕ). 1 + n) (settles_count c.args.code (relayed h c.args.t.serial) ∙ sym c.relay_look-count.ensures.count)

pub relay_look-count-requires : goal.relay_look-count-requires
relay_look-count-requires c = record { kept = running_kept c.args.ledger.now.pool c.args.ledger.now.events c.args.w c.args.t.serial c.requires.lawful c.requires.running }

pub returns-in_err-room_for : goal.returns-in_err-room_for
returns-in_err-room_for c =
    let at = (goal.at.returns-in_err-room_for c).After-room_for in
    exits_full c.args.ledger.now (step.End c.args.w (Fail c.args.code)) c.from_residual.result _ c.from_residual.ensures.1 c.in_err-room_for.ensures.room.0
    (end_full c.args.ledger.now c.args.w c.args.t.serial (Fail c.args.code) _ c.requires.stands c.requires.running (count at) c.in_err-room_for.ensures.room.1)

pub relay-requires-clause-kept : goal.relay-requires-clause-kept
relay-requires-clause-kept c =
    subst (λ (p : Past). is_kept p.events c.args.t.serial ≡ true) (sym c.end_body.ensures) (ended_kept c.args.ledger.now.pool c.args.ledger.now.events c.args.w c.args.t.serial c.requires.lawful c.requires.running)

-- the end of the body leaves to whom the code is relayed
pub relay-requires-clause-count : goal.relay-requires-clause-count
relay-requires-clause-count c =
    c.relay_look-count.ensures.count ∙ ap (λ (us : List ℕ). length us) (sym (fail_relayed c.args.ledger.now.events c.args.w c.args.t.serial))
    ∙ ap (λ (p : Past). length (relayed p.events c.args.t.serial)) (sym c.end_body.ensures)

-- what follows the end of the body, read where it has ended
after : (h : List Event) (w t code : ℕ) → after_end (h ++ event.End t w ∷ []) t (Fail code) ≡ settles code (relayed (h ++ event.End t w ∷ []) t)
after h w t code = fail_events h w t code ∙ ap (settles code) (sym (fail_relayed h w t))

pub relay-requires-clause-may : goal.relay-requires-clause-may
relay-requires-clause-may c =
    let at = (goal.at.relay-requires-clause-may c).After-room_for in
    let now = c.args.ledger.now in
    let may = (may_end now.pool now.events c.args.w c.args.t.serial (Fail c.args.code) c.requires.lawful c.requires.stands c.requires.running).1 in
    subst (λ (p : Past). AllowedFrom p.pool p.events (settles c.args.code (relayed p.events c.args.t.serial))) (sym c.end_body.ensures)
    (subst (AllowedFrom now.pool (now.events ++ event.End c.args.t.serial c.args.w ∷ [])) (after now.events c.args.w c.args.t.serial c.args.code) may)

pub returns : goal.returns
returns c =
    let at = (goal.at.returns c).After-room_for in
    let now = c.args.ledger.now in
    let is = after now.events c.args.w c.args.t.serial c.args.code in
    end_made now c.relay.new.ledger c.args.w c.args.t.serial (Fail c.args.code) (settles c.args.code (relayed (now.events ++ event.End c.args.t.serial c.args.w ∷ []) c.args.t.serial)) _ _ c.requires.stands c.requires.running is refl
    (ap (λ (es : List Event). 1 + length es) (sym is) ∙ count at) c.in_ok-room_for.ensures.room
    (c.relay.ensures ∙ ap (λ (p : Past). grown p (settles c.args.code (relayed p.events c.args.t.serial))) c.end_body.ensures)
