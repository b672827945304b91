use Rattle.fj_story.proofs.Tabling.{numbers_are, rows_are}
use Rattle.fj_story.proofs.table.TaskTable.rows.Goals as goal

pub returns-clause-rows : goal.returns-clause-rows
returns-clause-rows c = rw (c.as_slice.ensures.value, ← c.self.view_is) (rows_are c.self.inside.told.value c.self.inside.rows.items c.self.inside.events c.self.invariant)

pub returns-clause-numbers : goal.returns-clause-numbers
returns-clause-numbers c = rw (c.as_slice.ensures.value, ← c.self.view_is) (numbers_are c.self.inside.told.value c.self.inside.rows.items c.self.inside.events c.self.invariant)
