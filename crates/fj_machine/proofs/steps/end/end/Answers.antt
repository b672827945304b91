use Rattle.fj_rules.specs.declared.step.Step.TheVariants.{End}
use Rattle.fj_machine.proofs.Outcomes.Results.{exits}
use Rattle.fj_machine.proofs.steps.end.end.Goals as goal

pub returns-in_err-t : goal.returns-in_err-t
returns-in_err-t c = exits c.args.ledger.now (End c.args.w c.args.ending) c.from_residual.result _ c.from_residual.ensures.1 c.in_err-t.ensures
