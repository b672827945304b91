use Rattle.fj_rules.specs.declared.step.Step.TheVariants as step
use Rattle.std.proofs.Common.{◌≡◌, ◌+◌, ◌∷◌, [], length, true, false, Some, refl, ap, sym, ◌∙◌, subst, inl, inr}
use Rattle.fj_rules.specs.declared.event.Event.TheVariants.{Hooked, Settle}
use Rattle.fj_rules.specs.declared.status.Status.TheVariants.{Normal}
use Rattle.fj_rules.specs.Allowed.{Allowed}
use Rattle.fj_rules.specs.Answers.{hook_events}
use Rattle.fj_rules.specs.Runs.{Past}
use Rattle.fj_machine.proofs.ByStep.HookSteps.{own, own_count, hook_full, hook_made, may_hook, root_events, root_says}
use Rattle.fj_machine.proofs.Outcomes.RoomTests.{either_way, grown_none}
use Rattle.fj_machine.proofs.Outcomes.Results.{exits_full}
use Rattle.fj_tree.specs.Handles.{Handle}
use Rattle.fj_machine.proofs.steps.end.hook.root_hook_done.Goals as goal
use Rattle.fj_machine.proofs.steps.end.hook.root_hook_done.Goals.{After-room_for, then-undone, else-undone}

-- the events, and how many they are
events : (c : After-room_for) → hook_events c.args.ledger.now.events (Some c.args.c.serial) ≡ Hooked c.args.c.serial ∷ own c.args.c.serial c.args.undone
events c = root_events c.args.ledger.now.pool c.args.ledger.now.events c.args.w c.args.c.serial _ c.room_for.ensures.lawful c.requires.hand c.requires.root c.requires.undone

count : (c : After-room_for) → 1 + length (own c.args.c.serial c.args.undone) ≡ c.if-undone.room_for
count c =
    own_count c.args.c.serial _ _
    (either_way c.args.undone c.if-undone.room_for 2 1 (elim c.if-undone.branch [ then-undone w ↦ inl (w.if-undone.true, w.room_for-is) | else-undone w ↦ inr (w.if-undone.false, w.room_for-is) ]))

pub returns-in_err-room_for : goal.returns-in_err-room_for
returns-in_err-room_for c =
    let at = (goal.at.returns-in_err-room_for c).After-room_for in
    exits_full c.args.ledger.now (step.HookDone c.args.w) c.from_residual.result _ c.from_residual.ensures.1 c.in_err-room_for.ensures.room.0
    (hook_full c.args.ledger.now c.args.w c.args.c.serial _ _ c.requires.worker c.requires.hand (events at) (count at) c.in_err-room_for.ensures.room.1)

pub returns-then-not-undone : goal.returns-then-not-undone
returns-then-not-undone c =
    let at = (goal.at.returns-then-not-undone c).After-room_for in
    let h = c.args.ledger.now.events in
    let done = c.if-not-undone.true in
    rw (ap (λ (x : Handle). x.serial) c.c.view_is) (hook_made c.args.ledger.now c.end_hook.new.self c.args.w c.args.c.serial [] _ _ c.requires.worker c.requires.hand (rw done at (events at)) (root_says h c.args.c.serial false c.requires.root (c.requires.undone ∙ done))
    (rw done at (count at)) c.in_ok-room_for.ensures.room (c.end_hook.ensures ∙ grown_none _))

pub settle-requires-clause-may : goal.settle-requires-clause-may
settle-requires-clause-may c =
    let at = (goal.at.settle-requires-clause-may c).After-room_for in
    let may = may_hook c.args.ledger.now.pool c.args.ledger.now.events c.args.w c.args.c.serial _ c.room_for.ensures.lawful c.requires.worker c.requires.hand (events at) in
    let both = rw c.if-not-undone.false at may in
    subst (λ (p : Past). Allowed p.pool p.events (Settle c.args.c.serial Normal)) (sym c.end_hook.ensures) (both.0)

pub returns : goal.returns
returns c =
    let at = (goal.at.returns c).After-room_for in
    let undone = c.if-not-undone.false in
    rw (ap (λ (x : Handle). x.serial) c.c-2.view_is) (hook_made c.args.ledger.now c.settle.new.self c.args.w c.args.c.serial (Settle c.args.c.serial Normal ∷ []) _ _ c.requires.worker c.requires.hand (rw undone at (events at))
    (root_says c.args.ledger.now.events c.args.c.serial true c.requires.root (c.requires.undone ∙ undone)) (rw undone at (count at)) c.in_ok-room_for.ensures.room
    (c.settle.ensures ∙ rw c.end_hook.ensures refl))
