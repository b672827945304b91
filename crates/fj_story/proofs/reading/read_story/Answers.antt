use Rattle.std.proofs.Common.{sym, ◌∙◌}
use Rattle.fj_check.proofs.Found.{read_failed}
use Rattle.fj_story.proofs.Read.{read_fault, read_whole}
use Rattle.fj_story.proofs.reading.read_story.Goals as goal

pub returns-in-Ok-clause-ok : goal.returns-in-Ok-clause-ok
returns-in-Ok-clause-ok g c = read_whole _ c.filter-run.new.state c.into_story.result _ _ _ _ c.new-state.ensures c.in-Ok.ensures.ok c.into_story.ensures

pub returns-in-Err-clause-err : goal.returns-in-Err-clause-err
returns-in-Err-clause-err g c = rw c.check_fault.ensures (read_fault _ c.in-Err.fault _ _ _ _ c.new-state.ensures c.in-Err.ensures.err)

pub returns-in-Err-clause-failed : goal.returns-in-Err-clause-failed
returns-in-Err-clause-failed g c = λ is. read_failed _ _ c.in-Err.fault _ _ _ _ _ _ _ _ c.in-Err.ensures.err (sym c.check_fault.ensures ∙ is)
