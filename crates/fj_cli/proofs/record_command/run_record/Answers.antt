use Rattle.std.proofs.Common.{◌∙◌, ⊎_elim, inl, inr, sym}
use Rattle.fj_cli.proofs.record_command.run_record.Goals as goal

pub returns-in-Err-clause-failed : goal.returns-in-Err-clause-failed
returns-in-Err-clause-failed g c = λ five. inr (inr c.in-Err.ensures.err)

pub returns-clause-failed : goal.returns-clause-failed
returns-clause-failed g c = λ five.
    ⊎_elim (λ read. inl read) (⊎_elim (λ written. inr (inl written)) (λ named. inr (inr (sym c.in-Ok.ensures.named ∙ named)))) (c.record_job_to.ensures.failed five)
