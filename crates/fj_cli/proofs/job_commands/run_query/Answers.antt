use Rattle.fj_cli.proofs.Failed.{refused_unfailed}
use Rattle.fj_cli.proofs.JobEnds.{query_ended}
use Rattle.fj_cli.specs.Answers.{value_line}
use Rattle.fj_cli.proofs.job_commands.run_query.Goals as goal

pub returns-in-Ok-clause-ends : goal.returns-in-Ok-clause-ends
returns-in-Ok-clause-ends g c =
    let range = c.in-Some.ensures.some in
    query_ended c.args.options _ _ _ c.args.query _ _ range.0 range.1 c.in-Some.ensures.few c.in-Ok.value c.in-Ok.ensures
    (c.answered.ensures.job (value_line c.in-Ok.value) c.line_of.ensures)

pub returns-in-Err-clause-failed : goal.returns-in-Err-clause-failed
returns-in-Err-clause-failed g c = λ five. absurd (refused_unfailed c.refused.result c.refused.ensures.known five)
