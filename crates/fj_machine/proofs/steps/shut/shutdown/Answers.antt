use Rattle.std.proofs.Common.{sym, ◌∙◌}
use Rattle.fj_rules.specs.declared.step.Step.TheVariants.{Shutdown}
use Rattle.fj_machine.proofs.Outcomes.Results.{full_of_one, may_one, made_one}
use Rattle.fj_machine.proofs.ByStep.ShutSteps.{closes, closed_tells, done_says}
use Rattle.fj_machine.proofs.steps.shut.shutdown.Goals as goal

pub returns-then-is_shut : goal.returns-then-is_shut
returns-then-is_shut c = closed_tells c.args.ledger.now c.is_shut.ensures.lawful (sym c.is_shut.ensures.closed ∙ c.if-is_shut.true)

pub returns-in_err-room_for : goal.returns-in_err-room_for
returns-in_err-room_for c = full_of_one c.args.ledger.now Shutdown _ c.from_residual.result _ c.from_residual.ensures.1 (closes c.args.ledger.now (sym c.is_shut.ensures.closed ∙ c.if-is_shut.false)) c.in_err-room_for.ensures.room

pub close_pool-requires-clause-may : goal.close_pool-requires-clause-may
close_pool-requires-clause-may c = may_one c.args.ledger.now Shutdown _ c.in_ok-room_for.ensures.lawful (closes c.args.ledger.now (sym c.is_shut.ensures.closed ∙ c.if-is_shut.false))

pub returns : goal.returns
returns c = made_one c.args.ledger.now c.close_pool.new.self Shutdown _ _ (closes c.args.ledger.now (sym c.is_shut.ensures.closed ∙ c.if-is_shut.false)) c.in_ok-room_for.ensures.room (done_says c.args.ledger.now).0 c.close_pool.ensures
