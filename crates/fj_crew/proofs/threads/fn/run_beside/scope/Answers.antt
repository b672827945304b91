use denote.Param.{param}
use denote.Param.Send.{param_send}
use Rattle.fj_crew.proofs.threads.fn.run_beside.scope.Goals as goal

pub start_all-all-requires-send-H : goal.start_all-all-requires-send-H
start_all-all-requires-send-H g c κs _ = param_send 1 (param 0 g.row.H) (search)
