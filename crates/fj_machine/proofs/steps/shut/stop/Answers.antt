use Rattle.std.proofs.Common.{sym, ◌∙◌}
use Rattle.fj_rules.specs.declared.step.Step.TheVariants.{Stop}
use Rattle.fj_machine.proofs.Outcomes.Results.{full_of_one, may_one, made_one}
use Rattle.fj_machine.proofs.ByStep.ShutSteps.{stops, stopped_tells, done_says}
use Rattle.fj_machine.proofs.steps.shut.stop.Goals as goal

pub returns-then-is_stopped : goal.returns-then-is_stopped
returns-then-is_stopped c = stopped_tells c.args.ledger.now c.is_stopped.ensures.lawful (sym c.is_stopped.ensures.stopped ∙ c.if-is_stopped.true)

pub returns-in_err-room_for : goal.returns-in_err-room_for
returns-in_err-room_for c = full_of_one c.args.ledger.now Stop _ c.from_residual.result _ c.from_residual.ensures.1 (stops c.args.ledger.now (sym c.is_stopped.ensures.stopped ∙ c.if-is_stopped.false)) c.in_err-room_for.ensures.room

pub stop_pool-requires-clause-may : goal.stop_pool-requires-clause-may
stop_pool-requires-clause-may c = may_one c.args.ledger.now Stop _ c.in_ok-room_for.ensures.lawful (stops c.args.ledger.now (sym c.is_stopped.ensures.stopped ∙ c.if-is_stopped.false))

pub returns : goal.returns
returns c = made_one c.args.ledger.now c.stop_pool.new.self Stop _ _ (stops c.args.ledger.now (sym c.is_stopped.ensures.stopped ∙ c.if-is_stopped.false)) c.in_ok-room_for.ensures.room (done_says c.args.ledger.now).1 c.stop_pool.ensures
