use Rattle.fj_arguments.proofs.jobs.sum.Goals as goal

pub returns-clause-app : goal.returns-clause-app
returns-clause-app c = c.over_range.ensures.app _ c.titled-sum.ensures.app
