use Rattle.fj_submitter.specs.Lanes.{lanes_of}
use Rattle.test_pool.proofs.making_tests.a_pool_is_made_and_wound_up.Given as goal

abbrev pub ghosts-handed_in : goal.ghosts-handed_in
ghosts-handed_in g a = record { gate = a.parts.closer.gate; lanes = lanes_of a.parts.core.lanes; pool = a.parts.core.store.past.pool; hands = a.parts.pairs; log = a.parts.log }
