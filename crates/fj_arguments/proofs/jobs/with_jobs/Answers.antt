use Rattle.fj_arguments.proofs.jobs.with_jobs.Goals as goal

pub returns : goal.returns
returns c = λ line is.
    let found = c.with_one-with_find.ensures _ _ (c.with_ranges-ranges.ensures line is) c.find.ensures.app in
    c.with_one.ensures _ _ found c.tree.ensures.app
