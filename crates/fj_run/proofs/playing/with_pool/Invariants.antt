use Rattle.fj_submitter.specs.Lanes.{lanes_of}
use Rattle.fj_run.proofs.playing.with_pool.Given as goal

abbrev pub ghosts-open_and_play : goal.ghosts-open_and_play
ghosts-open_and_play g a = record { gate = a.parts.closer.gate; lanes = lanes_of a.parts.core.lanes; pool = a.parts.core.store.past.pool; hands = a.parts.pairs; log = a.parts.log }
