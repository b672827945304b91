use Rattle.fj_record.proofs.Recorded.{written_history}
use Rattle.fj_record.proofs.Told.{told_whole}
use Rattle.fj_record.proofs.history.write_history.Goals as goal

pub returns-clause-whole : goal.returns-clause-whole
returns-clause-whole g c = told_whole c.args.parts.now c.args.machine.now c.history.ensures.run

pub returns-clause-history : goal.returns-clause-history
returns-clause-history g c =
    written_history c.write_all.result c.args.parts.now c.args.machine.now c.history.ensures.run (rw c.limits.ensures.limits at c.limits.ensures.within) (rw c.history.ensures.events at c.write_all.ensures.codes)
