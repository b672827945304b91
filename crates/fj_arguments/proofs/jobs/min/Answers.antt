use Rattle.fj_arguments.proofs.jobs.min.Goals as goal

pub returns-clause-app : goal.returns-clause-app
returns-clause-app c = c.of_function.ensures.app _ (c.over_range.ensures.app _ c.titled-min.ensures.app)
