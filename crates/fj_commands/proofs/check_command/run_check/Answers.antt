use Rattle.std.proofs.Common.{string_bytes, ◌≡◌, ◌++◌, ⊎_elim, inl, inr}
use Rattle.std.specs.Prelude.{IfOk, codes}
use Rattle.fj_commands.specs.Answers.{number_line}
use Rattle.fj_commands.proofs.Checked.{good_ended, fault_ended}
use Rattle.fj_commands.proofs.check_command.run_check.Goals as goal

pub returns-in-Ok-clause-ends : goal.returns-in-Ok-clause-ends
returns-in-Ok-clause-ends g c =
    let line : IfOk c.format.result (λ s. string_bytes s ≡ codes "ok " ++ number_line c.in-Ok.events) = c.format.ensures.ok in
    good_ended c.in-Ok.events c.answered.result _ _ _ _ c.in-Ok.ensures.ok (c.answered.ensures.job (codes "ok " ++ number_line c.in-Ok.events) line) c.answered.ensures.status

pub returns-in-Ok-clause-failed : goal.returns-in-Ok-clause-failed
returns-in-Ok-clause-failed g c = λ five. inr (c.answered.ensures.failed five)

pub returns-in-Err-clause-ends : goal.returns-in-Err-clause-ends
returns-in-Err-clause-ends g c = fault_ended c.in-Err.fault c.told_of_fault.result _ _ _ _ c.in-Err.ensures.err c.told_of_fault.ensures.ends

pub returns-in-Err-clause-failed : goal.returns-in-Err-clause-failed
returns-in-Err-clause-failed g c = λ five. ⊎_elim (λ read. inl (c.in-Err.ensures.failed read)) (λ written. inr written) (c.told_of_fault.ensures.failed five)
