use Rattle.fj_arguments.proofs.commands.with_runs.Goals as goal

pub returns : goal.returns
returns c = c.with_jobs.ensures _ (c.with_plain-with_upgrade.ensures _ c.program.ensures)
