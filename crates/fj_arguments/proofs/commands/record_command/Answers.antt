use Rattle.std.proofs.Common.{subst}
use Rattle.clap.specs.Words.{with_rule}
use Rattle.fj_arguments.specs.Commands.{recorder_line}
use Rattle.fj_arguments.specs.Options.{Makes}
use Rattle.fj_arguments.proofs.commands.record_command.Goals as goal

pub returns : goal.returns
returns c =
    c.with_jobs.ensures _
    (subst (λ rule. Makes c.with_option-record.result (with_rule recorder_line rule)) c.file.ensures.rule (c.with_option-record.ensures.app _ c.recorder.ensures.app))
