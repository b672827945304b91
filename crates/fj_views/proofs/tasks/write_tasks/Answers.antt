use Rattle.fj_views.proofs.Lines.{table_is}
use Rattle.fj_views.proofs.tasks.write_tasks.Goals as goal

pub returns : goal.returns
returns g c = rw (← table_is c.args.story.now.events c.rows.result.now c.rows.ensures.rows c.rows.ensures.numbers) c.write.ensures.writes
