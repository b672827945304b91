use Rattle.fj_jobs.proofs.divide.+compute.Given as goal

abbrev pub decreases-compute : goal.decreases-compute
decreases-compute g l = g.J.Divide.size l.job
