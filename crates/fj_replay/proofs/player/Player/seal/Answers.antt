use Rattle.fj_replay.proofs.Starving.{nothing_else}
use Rattle.fj_replay.proofs.player.Player.seal.Goals as goal
use Rattle.fj_replay.proofs.player.Player.seal.Goals.{in-Ok, in-Err-OutOfMemory, in-Err}

pub returns-clause-err : goal.returns-clause-err
returns-clause-err c =
    elim c.match-seal.branch [
      | in-Ok w ↦ rw w.result-is tt
      | in-Err-OutOfMemory w ↦ rw (w.result-is, ← c.self.view_is) (nothing_else c.self.inside.machine (rw w.in-Err-OutOfMemory.field-0-is at w.in-Err-OutOfMemory.ensures.err))
      | in-Err w ↦ rw w.result-is tt
    ]
