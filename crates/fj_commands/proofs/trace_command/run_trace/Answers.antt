use Rattle.fj_replay.specs.Tells.{seen}
use Rattle.fj_commands.proofs.Failed.{trace_failed}
use Rattle.fj_commands.proofs.TraceEnds.{trace_ended}
use Rattle.fj_commands.proofs.trace_command.run_trace.Goals as goal

pub returns-clause-ends : goal.returns-clause-ends
returns-clause-ends g c =
    trace_ended c.end_script.result (seen g.R.Source.remaining g.R.Source.calls _ _) (seen g.W.Sink.contents g.W.Sink.calls _ _) _ c.end_script.ensures.bytes
    c.trace-ended.result c.trace-ended.ensures.ok c.trace-ended.ensures.err c.end_script.ensures.status

pub returns-clause-failed : goal.returns-clause-failed
returns-clause-failed g c = λ five.
    trace_failed (seen g.R.Source.remaining g.R.Source.calls _ _) (seen g.W.Sink.contents g.W.Sink.calls _ _) _
    c.trace-ended.result c.trace-ended.ensures.fine c.trace-ended.ensures.err (c.end_script.ensures.failed five)
