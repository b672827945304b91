use Rattle.fj_cli.proofs.JobEnds.{least_ended}
use Rattle.fj_cli.proofs.job_commands.run_min.Goals as goal

pub returns-clause-ends : goal.returns-clause-ends
returns-clause-ends g c = least_ended c.args.options _ _ _ c.args.function _ _ _ c.linear.ensures c.run_query.ensures.ends
