use Rattle.fj_rules.specs.declared.step.Step.TheVariants as step
use Rattle.std.proofs.Common.{refl, ◌∙◌, []}
use Rattle.fj_rules.specs.declared.step.Ending.TheVariants.{Quiet}
use Rattle.fj_machine.proofs.ByStep.EndSteps.{end_full, end_made}
use Rattle.fj_machine.proofs.Outcomes.RoomTests.{grown_none}
use Rattle.fj_machine.proofs.Outcomes.Results.{exits_full}
use Rattle.fj_machine.proofs.steps.end.end_quiet.Goals as goal

pub returns-in_err-room_for : goal.returns-in_err-room_for
returns-in_err-room_for c =
    exits_full c.args.ledger.now (step.End c.args.w Quiet) c.from_residual.result _ c.from_residual.ensures.1 c.in_err-room_for.ensures.room.0
    (end_full c.args.ledger.now c.args.w c.args.t.serial Quiet _ c.requires.stands c.requires.running refl c.in_err-room_for.ensures.room.1)

pub returns : goal.returns
returns c =
    end_made c.args.ledger.now c.end_body.new.self c.args.w c.args.t.serial Quiet [] _ 1 c.requires.stands c.requires.running refl refl refl
    c.in_ok-room_for.ensures.room (c.end_body.ensures ∙ grown_none _)
