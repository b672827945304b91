use Rattle.fj_replay.proofs.NameTables.{numbered_said, untold_said}
use Rattle.fj_replay.proofs.task_naming.TaskNaming.push_said.Goals as goal

pub returns-in-Numbers-clause-line : goal.returns-in-Numbers-clause-line
returns-in-Numbers-clause-line c =
    rw c.in-Numbers.is (numbered_said c.push_line.result _ _ _ _ (rw (c.new.ensures.said, c.new.ensures.limits) at c.push_line.ensures.line))

pub returns-in-None-clause-line : goal.returns-in-None-clause-line
returns-in-None-clause-line c =
    untold_said c.push_line-in-None.result _ _ _ _ _ c.in-None.ensures.told (rw (c.new-in-None.ensures.said, c.new-in-None.ensures.limits) at c.push_line-in-None.ensures.line)
