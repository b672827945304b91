use Rattle.test_pool.proofs.agreement_thread_tests.one_end_goes_back_and_forth.Given as goal

-- the pair of the call
abbrev pub ghosts-race : goal.ghosts-race
ghosts-race g a = record { pair = a.one.pair }
