use Rattle.test_pool.proofs.agreement_tests.agreed.Given as goal

-- the number of the call
abbrev pub ghosts-agree_as_picked : goal.ghosts-agree_as_picked
ghosts-agree_as_picked a = record { value = a._number }
