use Rattle.std.proofs.Common.{ap, sym, ◌∙◌}
use Rattle.fj_rules.specs.declared.said.Said.TheVariants as says
use Rattle.fj_rules.specs.declared.step.Step.TheVariants.{Submit}
use Rattle.fj_machine.proofs.ByStep.AcceptSteps.{submits, submit_says}
use Rattle.fj_machine.proofs.Outcomes.Results.{exits, full_of_one, may_one, made_one}
use Rattle.fj_machine.proofs.steps.accept.submit.Goals as goal

pub returns-in_err-may_submit : goal.returns-in_err-may_submit
returns-in_err-may_submit c = exits c.args.ledger.now (Submit c.args.s c.args.kind.now) c.from_residual.result _ c.from_residual.ensures.1 (sym c.in_err-may_submit.ensures)

pub returns-in_err-room_for : goal.returns-in_err-room_for
returns-in_err-room_for c =
    full_of_one c.args.ledger.now (Submit c.args.s c.args.kind.now) _ c.from_residual-in_err-room_for.result _ c.from_residual-in_err-room_for.ensures.1 (submits c.args.ledger.now c.args.s c.args.kind.now (sym c.in_ok-may_submit.ensures)) c.in_err-room_for.ensures.room

pub accept-requires-clause-may : goal.accept-requires-clause-may
accept-requires-clause-may c = rw c.to_kind.ensures (may_one c.args.ledger.now (Submit c.args.s c.args.kind.now) _ c.in_ok-room_for.ensures.lawful (submits c.args.ledger.now c.args.s c.args.kind.now (sym c.in_ok-may_submit.ensures)))

pub returns : goal.returns
returns c = made_one c.args.ledger.now c.accept.new.self (Submit c.args.s c.args.kind.now) _ _ (submits c.args.ledger.now c.args.s c.args.kind.now (sym c.in_ok-may_submit.ensures)) c.in_ok-room_for.ensures.room (ap says.Task c.accept.ensures.number ∙ submit_says c.args.ledger.now c.args.s c.args.kind.now) (rw c.to_kind.ensures at c.accept.ensures.events)
