use Rattle.std.specs.Prelude.{◌-◌}
use Rattle.fj_notebook.proofs.Written.{WroteNotes}
use Rattle.fj_notebook.proofs.writing.write_notes.Given as goal

abbrev pub invariant-loop-from : goal.invariant-loop-from
invariant-loop-from g l = WroteNotes (g.W.Sink.contents l.fn.w) (g.W.Sink.contents l.w) (g.W.Sink.calls l.fn.w) (g.W.Sink.calls l.w)

abbrev pub decreases-loop-from : goal.decreases-loop-from
decreases-loop-from g l = l.tasks - l.from
