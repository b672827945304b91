use Rattle.test_pool.proofs.making_tests.wound_up.Goals as goal

pub wind_up-record-requires : goal.wind_up-record-requires
wind_up-record-requires g c = rw c.as_slice.ensures.value at c.are_all.ensures.0 c.if-are_all.true
