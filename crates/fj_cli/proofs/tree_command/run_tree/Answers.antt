use Rattle.std.proofs.Common.{inl, inr}
use Rattle.fj_cli.proofs.Failed.{tree_read}
use Rattle.fj_cli.proofs.tree_command.run_tree.Goals as goal

pub returns-in-Ok-clause-failed : goal.returns-in-Ok-clause-failed
returns-in-Ok-clause-failed g c = λ five. inr (c.fold.ensures.failed five)

pub returns-in-Err-clause-failed : goal.returns-in-Err-clause-failed
returns-in-Err-clause-failed g c = λ five. inl (tree_read c.in-Err.fault _ _ c.in-Err.ensures.told (c.told_of_fault.ensures.failed five))
