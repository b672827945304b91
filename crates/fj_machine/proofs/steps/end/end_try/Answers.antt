use Rattle.fj_rules.specs.declared.step.Step.TheVariants as step
use Rattle.std.proofs.Common.{◌≡◌, ◌+◌, ◌≤◌, ◌∷◌, ◌++◌, [], length, true, None, Some, refl, ap, sym, ◌∙◌, subst, inl, inr, arith}
use Rattle.std.proofs.lemmas.Bool.{not-false}
use Rattle.std.proofs.lemmas.List.{length-append}
use Rattle.fj_rules.specs.Pasts.{limit}
use Rattle.fj_rules.specs.declared.event.Event.TheVariants as event
use Rattle.fj_rules.specs.declared.step.Ending.TheVariants.{Try}
use Rattle.fj_rules.specs.Tasks.{is_completer}
use Rattle.fj_rules.specs.Hooks.{hooks, hand, receiver}
use Rattle.fj_rules.specs.Climbs.{arrival}
use Rattle.fj_rules.specs.Answers.{arriving, arriving_says}
use Rattle.fj_rules.specs.Runs.{Past, grown}
use Rattle.fj_machine.proofs.ByStep.EndSteps.{running_kept, end_full, end_made, end_suits, ended_completer, ended_free, ended_given, try_count}
use Rattle.fj_machine.proofs.Outcomes.RoomTests.{either_way}
use Rattle.fj_machine.proofs.Outcomes.Results.{exits_full}
use Rattle.fj_machine.proofs.steps.end.end_try.Goals as goal
use Rattle.fj_machine.proofs.steps.end.end_try.Goals.{After-room_for, then-spent, else-spent}
use Rattle.fj_machine.proofs.Outcomes.Found.{found_spent}

-- how many events there are
count : (c : After-room_for) → 1 + length (arriving c.args.t.serial (arrival (c.args.ledger.now.events ++ event.End c.args.t.serial c.args.w ∷ []) c.args.t.serial)) ≡ c.if-spent.room_for
count c =
    let h = c.args.ledger.now.events in
    let suits = end_suits c.args.ledger.now.pool h c.args.w c.args.t.serial Try c.requires.stands c.requires.running in
    let is = found_spent h c.args.t.serial c.record.result.now c.record.ensures ∙ sym c.is_spent-spent.ensures in
    try_count c.args.ledger.now.pool h c.args.w c.args.t.serial _ _ c.requires.lawful.allowed (c.requires.running, suits.0) (not-false (is_completer h c.args.t.serial) suits.1) is
    (either_way c.is_spent-spent.result c.if-spent.room_for 1 2 (elim c.if-spent.branch [ then-spent w ↦ inl (w.if-spent.true, w.room_for-is) | else-spent w ↦ inr (w.if-spent.false, w.room_for-is) ]))

pub record-requires : goal.record-requires
record-requires c = running_kept c.args.ledger.now.pool c.args.ledger.now.events c.args.w c.args.t.serial c.requires.lawful c.requires.running

pub returns-in_err-room_for : goal.returns-in_err-room_for
returns-in_err-room_for c =
    let at = (goal.at.returns-in_err-room_for c).After-room_for in
    exits_full c.args.ledger.now (step.End c.args.w Try) c.from_residual.result _ c.from_residual.ensures.1 c.in_err-room_for.ensures.room.0
    (end_full c.args.ledger.now c.args.w c.args.t.serial Try c.if-spent.room_for c.requires.stands c.requires.running (count at) c.in_err-room_for.ensures.room.1)

pub arrive-requires-clause-completer : goal.arrive-requires-clause-completer
arrive-requires-clause-completer c =
    let suits = end_suits c.args.ledger.now.pool c.args.ledger.now.events c.args.w c.args.t.serial Try c.requires.stands c.requires.running in
    subst (λ (p : Past). is_completer p.events c.args.t.serial ≡ true) (sym c.end_body.ensures) (ended_completer c.args.ledger.now.events c.args.w c.args.t.serial suits.1)

pub arrive-requires-clause-free : goal.arrive-requires-clause-free
arrive-requires-clause-free c =
    let suits = end_suits c.args.ledger.now.pool c.args.ledger.now.events c.args.w c.args.t.serial Try c.requires.stands c.requires.running in
    subst (λ (p : Past). hand p.events c.args.w ≡ None) (sym c.end_body.ensures) (ended_free c.args.ledger.now.events c.args.w c.args.t.serial suits.0)

pub arrive-requires-clause-given : goal.arrive-requires-clause-given
arrive-requires-clause-given c =
    subst (λ (p : Past). receiver c.args.t.serial (hooks p.events).just_ended (hooks p.events).last_worker ≡ Some c.args.w) (sym c.end_body.ensures) (ended_given c.args.ledger.now.events c.args.w c.args.t.serial)

pub arrive-requires-clause-fits : goal.arrive-requires-clause-fits
arrive-requires-clause-fits c =
    let at = (goal.at.arrive-requires-clause-fits c).After-room_for in
    let h = c.args.ledger.now.events in
    let e = event.End c.args.t.serial c.args.w in
    let room = c.in_ok-room_for.ensures.room in
    let fits : length (h ++ e ∷ []) + length (arriving c.args.t.serial (arrival (h ++ e ∷ []) c.args.t.serial)) ≤ limit c.args.ledger.now = omega (arith, count at, room, length-append h (e ∷ [])) in
    subst (λ (p : Past). length p.events + length (arriving c.args.t.serial (arrival p.events c.args.t.serial)) ≤ limit p) (sym c.end_body.ensures) fits

pub returns : goal.returns
returns c =
    let at = (goal.at.returns c).After-room_for in
    let t = c.args.t.serial in
    let said = c.arrive.ensures.said ∙ ap (λ (p : Past). arriving_says t (arrival p.events t)) c.end_body.ensures in
    let events = c.arrive.ensures.events ∙ ap (λ (p : Past). grown p (arriving t (arrival p.events t))) c.end_body.ensures in
    end_made c.args.ledger.now c.arrive.new.ledger c.args.w t Try _ _ _ c.requires.stands c.requires.running refl said (count at) c.in_ok-room_for.ensures.room events
