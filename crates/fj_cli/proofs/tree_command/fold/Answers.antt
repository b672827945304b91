use Rattle.std.proofs.Common.{◌≡◌, subst, string_bytes}
use Rattle.std.specs.Prelude.{IfOk}
use Rattle.fj_commands.specs.Answers.{EndsJob, number_line}
use Rattle.fj_cli.proofs.tree_command.fold.Goals as goal

pub returns-in-Ok-clause-job : goal.returns-in-Ok-clause-job
returns-in-Ok-clause-job g c =
    let line : IfOk c.format.result (λ s. string_bytes s ≡ number_line c.in-Ok.value) = c.format.ensures.ok in
    subst (λ n. EndsJob c.answered.result (number_line n) (g.W.Sink.contents c.args.out.now) (g.W.Sink.contents c.answered.new.out)) c.in-Ok.ensures.ok
    (c.answered.ensures.job (number_line c.in-Ok.value) line)
