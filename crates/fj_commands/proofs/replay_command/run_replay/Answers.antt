use Rattle.fj_replay.specs.declared.script_stage.ScriptStage.TheVariants.{Start}
use Rattle.fj_replay.specs.Tells.{seen}
use Rattle.fj_commands.proofs.Failed.{script_failed}
use Rattle.fj_commands.proofs.ScriptEnds.{replay_ended}
use Rattle.fj_commands.proofs.replay_command.run_replay.Goals as goal

pub returns-clause-ends : goal.returns-clause-ends
returns-clause-ends g c =
    replay_ended c.end_script.result (seen g.R.Source.remaining g.R.Source.calls _ _) (seen g.W.Sink.contents g.W.Sink.calls _ _) _ c.end_script.ensures.bytes
    c.replay-ended.result c.replay-ended.ensures.ok c.replay-ended.ensures.err c.end_script.ensures.status

pub returns-clause-failed : goal.returns-clause-failed
returns-clause-failed g c = λ five.
    script_failed (seen g.R.Source.remaining g.R.Source.calls _ _) (seen g.W.Sink.contents g.W.Sink.calls _ _) _ Start
    c.replay-ended.result c.replay-ended.ensures.fine c.replay-ended.ensures.err (c.end_script.ensures.failed five)
