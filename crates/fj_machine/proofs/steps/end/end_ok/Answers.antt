use Rattle.fj_rules.specs.declared.step.Step.TheVariants as step
use Rattle.std.proofs.Common.{◌≡◌, ◌+◌, ◌∷◌, ◌++◌, [], length, true, false, refl, sym, ◌∙◌, subst, inl, inr}
use Rattle.fj_rules.specs.declared.event.Event.TheVariants.{End, Settle}
use Rattle.fj_rules.specs.declared.step.Ending.TheVariants.{Ok}
use Rattle.fj_rules.specs.declared.status.Status.TheVariants.{Normal}
use Rattle.fj_rules.specs.Statuses.{status, is_undone}
use Rattle.fj_rules.specs.Allowed.{Allowed}
use Rattle.fj_rules.specs.Answers.{after_end}
use Rattle.fj_rules.specs.Runs.{Past}
use Rattle.fj_machine.proofs.ByStep.EndSteps.{running_kept, end_full, end_made, may_end, ok_events, ok_count}
use Rattle.fj_machine.proofs.Outcomes.RoomTests.{either_way, grown_none}
use Rattle.fj_machine.proofs.Outcomes.Results.{exits_full}
use Rattle.fj_machine.proofs.steps.end.end_ok.Goals as goal
use Rattle.fj_machine.proofs.steps.end.end_ok.Goals.{After-room_for, then-undone, else-undone, then-undone-2, else-undone-2}
use Rattle.fj_machine.proofs.Outcomes.Found.{found_undone}

-- whether the task is undone, as its record tells
told : (c : After-room_for) → is_undone (status c.args.ledger.now.events c.args.t.serial) ≡ c.is_undone-undone.result
told c =
    let h = c.args.ledger.now.events in
    found_undone h c.args.t.serial c.record.result.now c.record.ensures ∙ sym c.is_undone-undone.ensures

-- how many events there are
count : (c : After-room_for) → 1 + length (after_end (c.args.ledger.now.events ++ End c.args.t.serial c.args.w ∷ []) c.args.t.serial Ok) ≡ c.if-undone.room_for
count c =
    ok_count c.args.ledger.now.events c.args.w c.args.t.serial _ _ (told c)
    (either_way c.is_undone-undone.result c.if-undone.room_for 2 1 (elim c.if-undone.branch [ then-undone w ↦ inl (w.if-undone.true, w.room_for-is) | else-undone w ↦ inr (w.if-undone.false, w.room_for-is) ]))

pub record-requires : goal.record-requires
record-requires c = running_kept c.args.ledger.now.pool c.args.ledger.now.events c.args.w c.args.t.serial c.requires.lawful c.requires.running

pub returns-in_err-room_for : goal.returns-in_err-room_for
returns-in_err-room_for c =
    let at = (goal.at.returns-in_err-room_for c).After-room_for in
    exits_full c.args.ledger.now (step.End c.args.w Ok) c.from_residual.result _ c.from_residual.ensures.1 c.in_err-room_for.ensures.room.0
    (end_full c.args.ledger.now c.args.w c.args.t.serial Ok _ c.requires.stands c.requires.running (count at) c.in_err-room_for.ensures.room.1)

pub settle-requires-clause-may : goal.settle-requires-clause-may
settle-requires-clause-may c =
    let at = (goal.at.settle-requires-clause-may c).After-room_for in
    let h = c.args.ledger.now.events in
    let may = may_end c.args.ledger.now.pool h c.args.w c.args.t.serial Ok c.requires.lawful c.requires.stands c.requires.running in
    let both = rw (ok_events h c.args.w c.args.t.serial true (told at ∙ c.if-undone-2.true)) at (may.1) in
    subst (λ (p : Past). Allowed p.pool p.events (Settle c.args.t.serial Normal)) (sym c.end_body.ensures) (both.0)

pub returns : goal.returns
returns c =
    let at = (goal.at.returns c).After-room_for in
    let h = c.args.ledger.now.events in
    let t = c.args.t.serial in
    let room = c.in_ok-room_for.ensures.room in
    elim c.if-undone-2.branch [
      | then-undone-2 w ↦
          let after = ok_events h c.args.w t true (told at ∙ w.if-undone-2.true) in
          end_made c.args.ledger.now c.if-undone-2.ledger c.args.w t Ok (Settle t Normal ∷ []) _ _ c.requires.stands c.requires.running after refl (rw after at (count at)) room
          (w.ledger-is ∙ w.settle.ensures ∙ rw c.end_body.ensures refl)
      | else-undone-2 w ↦
          let after = ok_events h c.args.w t false (told at ∙ w.if-undone-2.false) in
          end_made c.args.ledger.now c.if-undone-2.ledger c.args.w t Ok [] _ _ c.requires.stands c.requires.running after refl (rw after at (count at)) room
          (w.ledger-is ∙ c.end_body.ensures ∙ grown_none _)
    ]
