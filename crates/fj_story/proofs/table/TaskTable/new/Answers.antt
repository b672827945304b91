use Rattle.fj_story.proofs.Tabling.{tabled_none}
use Rattle.fj_story.proofs.table.TaskTable.new.Goals as goal

pub invariant_of-result : goal.invariant_of-result
invariant_of-result c = rw (c.of.ensures, c.new.ensures.items) (tabled_none c.args.checker.now c.requires)
