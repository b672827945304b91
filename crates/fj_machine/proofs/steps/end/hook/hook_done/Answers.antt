use Rattle.std.proofs.Common.{sym}
use Rattle.fj_rules.specs.declared.step.Step.TheVariants.{HookDone}
use Rattle.fj_machine.proofs.Outcomes.Results.{exits}
use Rattle.fj_machine.proofs.steps.end.hook.hook_done.Goals as goal

pub returns-in_err-hook : goal.returns-in_err-hook
returns-in_err-hook c = exits c.args.ledger.now (HookDone c.args.w) c.from_residual.result _ c.from_residual.ensures.1 (sym c.in_err-hook.ensures.refusal)
