use Rattle.std.proofs.Common.{ap, sym, ◌∙◌}
use Rattle.fj_rules.specs.declared.said.Said.TheVariants as says
use Rattle.fj_rules.specs.declared.step.Step.TheVariants.{Trigger}
use Rattle.fj_machine.proofs.ByStep.AcceptSteps.{makes_trigger, trigger_says}
use Rattle.fj_machine.proofs.Outcomes.Results.{exits, full_of_one, may_one, made_one}
use Rattle.fj_machine.proofs.steps.accept.trigger.Goals as goal

pub returns-in_err-may_trigger : goal.returns-in_err-may_trigger
returns-in_err-may_trigger c = exits c.args.ledger.now (Trigger c.args.w c.args.count) c.from_residual.result _ c.from_residual.ensures.1 (sym c.in_err-may_trigger.ensures)

pub returns-in_err-room_for : goal.returns-in_err-room_for
returns-in_err-room_for c =
    full_of_one c.args.ledger.now (Trigger c.args.w c.args.count) _ c.from_residual-in_err-room_for.result _ c.from_residual-in_err-room_for.ensures.1
    (makes_trigger c.args.ledger.now c.args.w c.args.count (sym c.in_ok-may_trigger.ensures)) c.in_err-room_for.ensures.room

pub make_trigger-requires-clause-may : goal.make_trigger-requires-clause-may
make_trigger-requires-clause-may c =
    may_one c.args.ledger.now (Trigger c.args.w c.args.count) _ c.in_ok-room_for.ensures.lawful (makes_trigger c.args.ledger.now c.args.w c.args.count (sym c.in_ok-may_trigger.ensures))

pub returns : goal.returns
returns c =
    made_one c.args.ledger.now c.make_trigger.new.self (Trigger c.args.w c.args.count) _ _ (makes_trigger c.args.ledger.now c.args.w c.args.count (sym c.in_ok-may_trigger.ensures)) c.in_ok-room_for.ensures.room
    (ap says.Task c.make_trigger.ensures.number ∙ trigger_says c.args.ledger.now c.args.w c.args.count) c.make_trigger.ensures.events
