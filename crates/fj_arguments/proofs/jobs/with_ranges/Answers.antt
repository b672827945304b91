use Rattle.fj_arguments.proofs.jobs.with_ranges.Goals as goal

pub returns : goal.returns
returns c = λ line is. c.with_one.ensures _ _ (c.with_one-with_sum.ensures line _ is c.sum.ensures.app) c.min.ensures.app
