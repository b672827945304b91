use Rattle.fj_graph.proofs.running.run_graph.Given as goal

-- the graph is the one that is run
abbrev pub ghosts-run_in : goal.ghosts-run_in
ghosts-run_in g a = record { graph = a.graph.now }
