use Rattle.fj_monitor.proofs.Telling.{told_if}
use Rattle.fj_monitor.proofs.pool.Pool.try_with.Goals as goal

pub returns-clause-told : goal.returns-clause-told
returns-clause-told g c = told_if c.tell-answer.new.front c.args.ticket c.tell-answer.result c.tell-answer.ensures.seen
