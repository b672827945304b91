use Rattle.fj_replay.specs.declared.script_stage.ScriptStage.TheVariants.{Old}
use Rattle.fj_replay.specs.Tells.{seen}
use Rattle.fj_commands.proofs.Failed.{script_failed}
use Rattle.fj_commands.proofs.ScriptEnds.{upgrade_ended}
use Rattle.fj_commands.proofs.upgrade_command.run_upgrade.Goals as goal

pub returns-clause-ends : goal.returns-clause-ends
returns-clause-ends g c =
    upgrade_ended c.end_script.result (seen g.R.Source.remaining g.R.Source.calls _ _) (seen g.W.Sink.contents g.W.Sink.calls _ _) _ c.end_script.ensures.bytes
    c.upgrade-ended.result c.upgrade-ended.ensures.ok c.upgrade-ended.ensures.err c.end_script.ensures.status

pub returns-clause-failed : goal.returns-clause-failed
returns-clause-failed g c = λ five.
    script_failed (seen g.R.Source.remaining g.R.Source.calls _ _) (seen g.W.Sink.contents g.W.Sink.calls _ _) _ Old
    c.upgrade-ended.result c.upgrade-ended.ensures.fine c.upgrade-ended.ensures.err (c.end_script.ensures.failed five)
