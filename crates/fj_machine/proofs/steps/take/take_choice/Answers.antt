use Rattle.std.proofs.Common.{subst, arith}
use Rattle.std.proofs.lemmas.Result.{err_from_is_err_and}
use Rattle.fj_rules.specs.Allowed.{AllowedFrom}
use Rattle.fj_rules.specs.Answers.{taking}
use Rattle.fj_machine.proofs.ByStep.TakeSteps.{takes_none, takes_full, takes_it}
use Rattle.fj_machine.proofs.steps.take.take_choice.Goals as goal

pub returns-in_default : goal.returns-in_default
returns-in_default c = takes_none c.args.ledger.now c.args.w c.args.r c.requires.lawful.fits (rw c.in_default.is at c.chosen.ensures)

pub returns-in_err-room_for : goal.returns-in_err-room_for
returns-in_err-room_for c =
    let now = c.args.ledger.now in
    let p = err_from_is_err_and c.from_residual.result c.from_residual.ensures.1 in
    rw (p.1, p.2, c.in_err-room_for.ensures.room.0) (takes_full now c.args.w c.args.r c.in-Some.source (omega (arith, c.in_err-room_for.ensures.room.1)) c.in-Some.ensures)

pub take-requires-clause-may : goal.take-requires-clause-may
take-requires-clause-may c =
    let now = c.args.ledger.now in
    subst (λ t. AllowedFrom now.pool now.events (taking now.events c.args.w t)) (c.in-Some.ensures).chosen c.requires.may

pub returns : goal.returns
returns c = takes_it c.args.ledger.now c.take.new.self c.args.w c.args.r c.in-Some.source c.take.result c.in_ok-room_for.ensures.room c.in-Some.ensures c.take.ensures.said c.take.ensures.events
