use Rattle.fj_cli.proofs.JobEnds.{hit_ended}
use Rattle.fj_cli.proofs.job_commands.run_find.Goals as goal

pub returns-clause-ends : goal.returns-clause-ends
returns-clause-ends g c =
    hit_ended c.args.options _ _ _ c.args.function _ _ _ c.linear.ensures c.args.want _ c.from.ensures c.run_query.ensures.ends
