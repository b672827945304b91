use Rattle.fj_notebook.proofs.Written.{pushes_last, pushes_then}
use Rattle.fj_notebook.proofs.writing.push_task.Goals as goal

pub returns : goal.returns
returns g c =
    pushes_last c.push_time-4.result _ _ _
    (pushes_then _ _ _ (pushes_then _ _ _ (pushes_then _ _ _ c.in_ok-push_name.ensures c.in_ok-push_time.ensures) c.in_ok-push_time-2.ensures) c.in_ok-push_time-3.ensures)
    c.push_time-4.ensures
