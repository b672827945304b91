use Rattle.std.proofs.Common.{◌≡◌}
use Rattle.fj_replay.specs.declared.fault.ReplayFault.TheVariants.{Memory}
use Rattle.fj_replay.specs.Stops.{replay_fault}
use Rattle.fj_replay.proofs.Ends.{stops}
use Rattle.fj_replay.proofs.Starving.{same_memory}
use Rattle.fj_replay.proofs.script_run.run_on.Goals as goal

pub returns-in-Err-clause-err : goal.returns-in-Err-clause-err
returns-in-Err-clause-err g c = rw c.replay_fault.ensures (stops _ _ _ _ c.in-Err.ensures.err)

pub returns-in-Err-clause-memory : goal.returns-in-Err-clause-memory
returns-in-Err-clause-memory g c = λ is.
    let memory : replay_fault c.in-Err.fault ≡ Memory = cc in
    same_memory _ _ _ _ _ _ memory c.in-Err.ensures.memory
