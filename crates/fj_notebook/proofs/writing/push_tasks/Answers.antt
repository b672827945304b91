use Rattle.fj_notebook.proofs.Written.{pushes_none, pushes_then}
use Rattle.fj_notebook.proofs.writing.push_tasks.Goals as goal

pub loop-t-init : goal.loop-t-init
loop-t-init g c = pushes_none _

pub loop-t-preserved : goal.loop-t-preserved
loop-t-preserved g c = pushes_then _ _ _ c.loop-t.invariant c.in_ok-push_task.ensures
