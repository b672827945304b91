use Rattle.fj_rules.specs.declared.step.Step.TheVariants as step
use Rattle.std.proofs.Common.{ap, ◌≡◌, ◌+◌, ◌∷◌, ◌++◌, [], length, true, false, None, Some, refl, sym, ◌∙◌, subst, inl, inr}
use Rattle.fj_rules.specs.declared.event.Event.TheVariants as event
use Rattle.fj_rules.specs.declared.event.How.TheVariants as how
use Rattle.fj_rules.specs.declared.step.Ending.TheVariants.{Complete}
use Rattle.fj_rules.specs.Tasks.{is_kept, is_completer}
use Rattle.fj_rules.specs.Hooks.{hooks, hand, receiver}
use Rattle.fj_rules.specs.Completers.{is_spent}
use Rattle.fj_rules.specs.Allowed.{Allowed}
use Rattle.fj_rules.specs.Answers.{after_end}
use Rattle.fj_rules.specs.Runs.{Past}
use Rattle.fj_machine.proofs.ByStep.EndSteps.{running_kept, end_full, end_made, may_end, end_suits, ended_kept, ended_completer, ended_free, ended_given, complete_events, complete_says, complete_count}
use Rattle.fj_machine.proofs.Outcomes.RoomTests.{either_way, grown_none}
use Rattle.fj_machine.proofs.Outcomes.Results.{exits_full}
use Rattle.fj_tree.specs.Handles.{Handle}
use Rattle.fj_machine.proofs.steps.end.end_complete.Goals as goal
use Rattle.fj_machine.proofs.steps.end.end_complete.Goals.{After-room_for, then-spent, else-spent}
use Rattle.fj_machine.proofs.Outcomes.Found.{found_spent}

-- whether the task is spent, as its record tells
told : (c : After-room_for) → is_spent c.args.ledger.now.events c.args.t.serial ≡ c.is_spent-spent.result
told c =
    let h = c.args.ledger.now.events in
    found_spent h c.args.t.serial c.record.result.now c.record.ensures ∙ sym c.is_spent-spent.ensures

-- how many events there are
count : (c : After-room_for) → 1 + length (after_end (c.args.ledger.now.events ++ event.End c.args.t.serial c.args.w ∷ []) c.args.t.serial Complete) ≡ c.if-spent.room_for
count c =
    complete_count c.args.ledger.now.events c.args.w c.args.t.serial _ _ (told c)
    (either_way c.is_spent-spent.result c.if-spent.room_for 1 2 (elim c.if-spent.branch [ then-spent w ↦ inl (w.if-spent.true, w.room_for-is) | else-spent w ↦ inr (w.if-spent.false, w.room_for-is) ]))

pub record-requires : goal.record-requires
record-requires c = running_kept c.args.ledger.now.pool c.args.ledger.now.events c.args.w c.args.t.serial c.requires.lawful c.requires.running

pub returns-in_err-room_for : goal.returns-in_err-room_for
returns-in_err-room_for c =
    let at = (goal.at.returns-in_err-room_for c).After-room_for in
    exits_full c.args.ledger.now (step.End c.args.w Complete) c.from_residual.result _ c.from_residual.ensures.1 c.in_err-room_for.ensures.room.0
    (end_full c.args.ledger.now c.args.w c.args.t.serial Complete c.if-spent.room_for c.requires.stands c.requires.running (count at) c.in_err-room_for.ensures.room.1)

pub returns-then-spent-2 : goal.returns-then-spent-2
returns-then-spent-2 c =
    let at = (goal.at.returns-then-spent-2 c).After-room_for in
    let h = c.args.ledger.now.events in
    let t = c.args.t.serial in
    let is = told at ∙ c.if-spent-2.true in
    let after = complete_events h c.args.w t true is in
    rw (ap (λ (x : Handle). x.serial) c.t.view_is) (end_made c.args.ledger.now c.end_body.new.self c.args.w t Complete [] _ _ c.requires.stands c.requires.running after (complete_says h c.args.w t true is) (rw after at (count at))
    c.in_ok-room_for.ensures.room (c.end_body.ensures ∙ grown_none _))

pub fire-requires-clause-kept : goal.fire-requires-clause-kept
fire-requires-clause-kept c =
    subst (λ (p : Past). is_kept p.events c.args.t.serial ≡ true) (sym c.end_body.ensures) (ended_kept c.args.ledger.now.pool c.args.ledger.now.events c.args.w c.args.t.serial c.requires.lawful c.requires.running)

pub fire-requires-clause-completer : goal.fire-requires-clause-completer
fire-requires-clause-completer c =
    let suits = end_suits c.args.ledger.now.pool c.args.ledger.now.events c.args.w c.args.t.serial Complete c.requires.stands c.requires.running in
    subst (λ (p : Past). is_completer p.events c.args.t.serial ≡ true) (sym c.end_body.ensures) (ended_completer c.args.ledger.now.events c.args.w c.args.t.serial suits.1)

pub fire-requires-clause-free : goal.fire-requires-clause-free
fire-requires-clause-free c =
    let suits = end_suits c.args.ledger.now.pool c.args.ledger.now.events c.args.w c.args.t.serial Complete c.requires.stands c.requires.running in
    subst (λ (p : Past). hand p.events c.args.w ≡ None) (sym c.end_body.ensures) (ended_free c.args.ledger.now.events c.args.w c.args.t.serial suits.0)

pub fire-requires-clause-given : goal.fire-requires-clause-given
fire-requires-clause-given c =
    subst (λ (p : Past). receiver c.args.t.serial (hooks p.events).just_ended (hooks p.events).last_worker ≡ Some c.args.w) (sym c.end_body.ensures) (ended_given c.args.ledger.now.events c.args.w c.args.t.serial)

pub fire-requires-clause-may : goal.fire-requires-clause-may
fire-requires-clause-may c =
    let at = (goal.at.fire-requires-clause-may c).After-room_for in
    let h = c.args.ledger.now.events in
    let may = may_end c.args.ledger.now.pool h c.args.w c.args.t.serial Complete c.requires.lawful c.requires.stands c.requires.running in
    let both = rw (complete_events h c.args.w c.args.t.serial false (told at ∙ c.if-spent-2.false)) at (may.1) in
    subst (λ (p : Past). Allowed p.pool p.events (event.Fire c.args.t.serial how.Complete)) (sym c.end_body.ensures) (both.0)

pub returns : goal.returns
returns c =
    let at = (goal.at.returns c).After-room_for in
    let h = c.args.ledger.now.events in
    let t = c.args.t.serial in
    let is = told at ∙ c.if-spent-2.false in
    let after = complete_events h c.args.w t false is in
    rw (ap (λ (x : Handle). x.serial) c.t-2.view_is) (end_made c.args.ledger.now c.fire.new.self c.args.w t Complete (event.Fire t how.Complete ∷ []) _ _ c.requires.stands c.requires.running after (complete_says h c.args.w t false is)
    (rw after at (count at)) c.in_ok-room_for.ensures.room (c.fire.ensures ∙ rw c.end_body.ensures refl))
