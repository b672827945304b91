use Rattle.fj_lazy.proofs.descent.Descent.+descend.Given as goal

abbrev pub decreases-descend : goal.decreases-descend
decreases-descend g l = l.levels
