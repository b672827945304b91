use Rattle.std.proofs.Common.{sym, ◌∙◌}
use Rattle.fj_check.proofs.Found.{checked, read_failed, stops}
use Rattle.fj_check.proofs.check_history.check.Goals as goal

pub returns-in-Ok-clause-ok : goal.returns-in-Ok-clause-ok
returns-in-Ok-clause-ok g c = rw c.events_in-events.ensures (checked c.filter-run.new.state _ _ _ _ c.in-Ok.ensures.ok)

pub returns-in-Err-clause-err : goal.returns-in-Err-clause-err
returns-in-Err-clause-err g c = rw c.check_fault.ensures (stops c.in-Err.fault _ _ _ _ c.in-Err.ensures.err)

pub returns-in-Err-clause-failed : goal.returns-in-Err-clause-failed
returns-in-Err-clause-failed g c = λ is. read_failed _ _ c.in-Err.fault _ _ _ _ _ _ _ _ c.in-Err.ensures.err (sym c.check_fault.ensures ∙ is)
