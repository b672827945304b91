use Rattle.std.specs.Prelude.{string_bytes}
use Rattle.fj_notebook.specs.Writes.{PushesNotes}
use Rattle.fj_notebook.proofs.writing.push_tasks.Given as goal

abbrev pub invariant-loop-t : goal.invariant-loop-t
invariant-loop-t g l = PushesNotes (string_bytes l.fn.text) (string_bytes l.text)
