use Rattle.std.proofs.Common.{sym, ◌∙◌}
use Rattle.fj_machine.proofs.ByStep.SubmitRefusals.{refused_first, room_refusal}
use Rattle.fj_machine.proofs.steps.accept.submit_refusal.Goals as goal

pub returns-in-Err : goal.returns-in-Err
returns-in-Err c = refused_first c.args.ledger.now c.args.s c.args.kind.now c.in-Err.refusal (sym c.in-Err.ensures)

pub returns : goal.returns
returns c = c.err.ensures.value ∙ room_refusal c.args.ledger.now c.args.s c.args.kind.now c.room_for.result (sym c.in_default.ensures) c.room_for.ensures.room
