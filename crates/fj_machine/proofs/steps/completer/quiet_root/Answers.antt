use Rattle.std.proofs.Common.{◌≡◌, Some, ap, sym, ◌∙◌}
use Rattle.fj_rules.specs.declared.said.Said.TheVariants as says
use Rattle.fj_rules.specs.declared.step.Step.TheVariants.{QuietRoot}
use Rattle.fj_rules.specs.Statuses.{status, is_undone}
use Rattle.fj_rules.specs.Answers.{root_of}
use Rattle.fj_rules.specs.Climbs.{path}
use Rattle.fj_tree.specs.Handles.{Handle}
use Rattle.fj_machine.proofs.Outcomes.Stepping.{told}
use Rattle.fj_machine.proofs.Outcomes.OneEvent.{only_tells}
use Rattle.fj_machine.proofs.Outcomes.Results.{exits, full_of_one, may_one, made_one}
use Rattle.fj_machine.proofs.Outcomes.Found.{found_status}
use Rattle.fj_machine.proofs.ByStep.CompleterSteps.{settles_root, root_says, leaves_root}
use Rattle.fj_machine.proofs.steps.completer.quiet_root.Goals as goal
use Rattle.fj_machine.proofs.steps.completer.quiet_root.Goals.{After-is_undone}

-- the root is that of the task
rooted : (c : After-is_undone) → root_of (path c.args.ledger.now.events c.args.t) ≡ Some c.root-root.result.serial
rooted c = rw c.in_ok-h.ensures.number at c.root-root.ensures.root

-- whether the root is undone, as its record says
read : (c : After-is_undone) → is_undone (status c.args.ledger.now.events c.root-root.result.serial) ≡ c.is_undone.result
read c =
    ap is_undone (found_status c.args.ledger.now.events c.root-root.result.serial c.record.result.now c.record.ensures) ∙ sym c.is_undone.ensures

pub returns-in_err-h : goal.returns-in_err-h
returns-in_err-h c = exits c.args.ledger.now (QuietRoot c.args.w c.args.t) c.from_residual.result _ c.from_residual.ensures.1 (sym c.in_err-h.ensures.refusal)

pub returns-then-not-is_undone : goal.returns-then-not-is_undone
returns-then-not-is_undone c =
    let now = c.args.ledger.now in
    let at = (goal.at.returns-then-not-is_undone c).After-is_undone in
    let asked = QuietRoot c.args.w c.args.t in
    let leaves = leaves_root now c.args.w c.args.t c.root-root.result.serial (rooted at) (read at ∙ c.if-not-is_undone.true) in
    rw (ap (λ (x : Handle). x.serial) c.root.view_is)
    (told now asked (says.Spent c.root-root.result.serial) (only_tells now asked (says.Spent c.root-root.result.serial) c.in_ok-h.ensures.lawful (sym c.in_ok-h.ensures.refusal) leaves.0 leaves.1))

pub returns-in_err-room_for : goal.returns-in_err-room_for
returns-in_err-room_for c =
    let now = c.args.ledger.now in
    let at = (goal.at.returns-in_err-room_for c).After-is_undone in
    let is = settles_root now c.args.w c.args.t c.root-root.result.serial (sym c.in_ok-h.ensures.refusal) (rooted at) (read at ∙ c.if-not-is_undone.false) in
    full_of_one now (QuietRoot c.args.w c.args.t) _ c.from_residual-in_err-room_for.result _ c.from_residual-in_err-room_for.ensures.1 is c.in_err-room_for.ensures.room

pub settle-requires-clause-may : goal.settle-requires-clause-may
settle-requires-clause-may c =
    let now = c.args.ledger.now in
    let at = (goal.at.settle-requires-clause-may c).After-is_undone in
    let is = settles_root now c.args.w c.args.t c.root-root.result.serial (sym c.in_ok-h.ensures.refusal) (rooted at) (read at ∙ c.if-not-is_undone.false) in
    may_one now (QuietRoot c.args.w c.args.t) _ c.in_ok-room_for.ensures.lawful is

pub returns : goal.returns
returns c =
    let now = c.args.ledger.now in
    let at = (goal.at.returns c).After-is_undone in
    let undone = read at ∙ c.if-not-is_undone.false in
    let is = settles_root now c.args.w c.args.t c.root-root.result.serial (sym c.in_ok-h.ensures.refusal) (rooted at) undone in
    rw (ap (λ (x : Handle). x.serial) c.root-2.view_is) (
    made_one now c.settle.new.self (QuietRoot c.args.w c.args.t) _ _ is c.in_ok-room_for.ensures.room
    (root_says now c.args.w c.args.t c.root-root.result.serial (rooted at) undone) c.settle.ensures
    )
