use Rattle.fj_record.proofs.Whole.{printed}
use Rattle.fj_record.proofs.trace_script.trace.Goals as goal

pub returns-clause-history : goal.returns-clause-history
returns-clause-history g c = printed
