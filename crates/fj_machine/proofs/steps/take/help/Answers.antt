use Rattle.std.proofs.Common.{sym}
use Rattle.fj_rules.specs.declared.step.Step.TheVariants.{Help}
use Rattle.fj_machine.specs.Outcomes.{said_by}
use Rattle.fj_machine.proofs.ByStep.TakeSteps.{choice_may, choice_steps}
use Rattle.fj_machine.proofs.Outcomes.Results.{exits}
use Rattle.fj_machine.proofs.ByStep.TakeSteps.{help_takes}
use Rattle.fj_machine.proofs.steps.take.help.Goals as goal

pub returns-in_err-running_task : goal.returns-in_err-running_task
returns-in_err-running_task c = exits c.args.ledger.now (Help c.args.w c.args.r) c.from_residual.result _ c.from_residual.ensures.1 (sym c.in_err-running_task.ensures.refusal)

pub take_choice-requires-clause-may : goal.take_choice-requires-clause-may
take_choice-requires-clause-may c =
    let now = c.args.ledger.now in
    choice_may now (Help c.args.w c.args.r) c.args.w c.args.r c.in_ok-running_task.ensures.lawful (sym c.in_ok-running_task.ensures.refusal) (help_takes now.pool now.events c.args.w c.args.r).0

pub returns : goal.returns
returns c =
    let now = c.args.ledger.now in
    let takes = help_takes now.pool now.events c.args.w c.args.r in
    choice_steps now c.take_choice.new.ledger (Help c.args.w c.args.r) c.args.w c.args.r (said_by c.take_choice.result) c.take_choice.ensures (sym c.in_ok-running_task.ensures.refusal) takes.0 takes.1
