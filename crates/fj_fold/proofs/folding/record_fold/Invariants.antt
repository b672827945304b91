use Rattle.fj_fold.proofs.folding.record_fold.Given as goal

-- the tree is the one that is folded
abbrev pub ghosts-record_in : goal.ghosts-record_in
ghosts-record_in g a = record { nodes = a.family.now }
