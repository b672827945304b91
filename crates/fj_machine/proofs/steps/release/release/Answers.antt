use Rattle.std.proofs.Common.{sym}
use Rattle.fj_rules.specs.declared.step.Step.TheVariants.{Release}
use Rattle.fj_machine.proofs.ByStep.ReleaseSteps.{releases, release_says}
use Rattle.fj_machine.proofs.Outcomes.Results.{exits, full_of_one, may_one, made_one}
use Rattle.fj_machine.proofs.steps.release.release.Goals as goal

pub returns-in_err-t : goal.returns-in_err-t
returns-in_err-t c = exits c.args.ledger.now (Release c.args.t) c.from_residual.result _ c.from_residual.ensures.1 (sym c.in_err-t.ensures.refusal)

pub returns-in_err-room_for : goal.returns-in_err-room_for
returns-in_err-room_for c =
    full_of_one c.args.ledger.now (Release c.args.t) _ c.from_residual-in_err-room_for.result _ c.from_residual-in_err-room_for.ensures.1 (releases c.args.ledger.now c.args.t (sym c.in_ok-t.ensures.refusal)) c.in_err-room_for.ensures.room

pub release-requires-clause-may : goal.release-requires-clause-may
release-requires-clause-may c = rw c.in_ok-t.ensures.number (may_one c.args.ledger.now (Release c.args.t) _ c.in_ok-room_for.ensures.lawful (releases c.args.ledger.now c.args.t (sym c.in_ok-t.ensures.refusal)))

pub returns : goal.returns
returns c = made_one c.args.ledger.now c.release.new.self (Release c.args.t) _ _ (releases c.args.ledger.now c.args.t (sym c.in_ok-t.ensures.refusal)) c.in_ok-room_for.ensures.room (release_says c.args.ledger.now c.args.t) (rw c.in_ok-t.ensures.number at c.release.ensures)
