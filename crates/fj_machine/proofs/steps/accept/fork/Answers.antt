use Rattle.std.proofs.Common.{ap, sym, ◌∙◌}
use Rattle.fj_rules.specs.declared.said.Said.TheVariants as says
use Rattle.fj_rules.specs.declared.step.Step.TheVariants.{Fork}
use Rattle.fj_machine.proofs.ByStep.AcceptSteps.{forks, fork_says}
use Rattle.fj_machine.proofs.Outcomes.Results.{exits, full_of_one, may_one, made_one}
use Rattle.fj_machine.proofs.steps.accept.fork.Goals as goal

pub returns-in_err-parent : goal.returns-in_err-parent
returns-in_err-parent c = exits c.args.ledger.now (Fork c.args.w c.args.kind.now) c.from_residual.result _ c.from_residual.ensures.1 (sym c.in_err-parent.ensures.refusal)

pub returns-in_err-room_for : goal.returns-in_err-room_for
returns-in_err-room_for c =
    full_of_one c.args.ledger.now (Fork c.args.w c.args.kind.now) _ c.from_residual-in_err-room_for.result _ c.from_residual-in_err-room_for.ensures.1 (forks c.args.ledger.now c.args.w c.args.kind.now (sym c.in_ok-parent.ensures.refusal)) c.in_err-room_for.ensures.room

pub accept-requires-clause-may : goal.accept-requires-clause-may
accept-requires-clause-may c = (may_one c.args.ledger.now (Fork c.args.w c.args.kind.now) _ c.in_ok-room_for.ensures.lawful (forks c.args.ledger.now c.args.w c.args.kind.now (sym c.in_ok-parent.ensures.refusal)))

pub returns : goal.returns
returns c = made_one c.args.ledger.now c.accept.new.self (Fork c.args.w c.args.kind.now) _ _ (forks c.args.ledger.now c.args.w c.args.kind.now (sym c.in_ok-parent.ensures.refusal)) c.in_ok-room_for.ensures.room (ap says.Task c.accept.ensures.number ∙ fork_says c.args.ledger.now c.args.w c.args.kind.now) c.accept.ensures.events
