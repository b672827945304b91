use Rattle.fj_notes.proofs.WholeNotes.{read_whole, stops}
use Rattle.fj_notes.proofs.reading.read_notes.Goals as goal

pub returns-in-Ok-clause-ok : goal.returns-in-Ok-clause-ok
returns-in-Ok-clause-ok g c = read_whole _ _ _ _ _ c.in-Ok.ensures.ok

pub returns-in-Err-clause-err : goal.returns-in-Err-clause-err
returns-in-Err-clause-err g c = rw c.notes_fault.ensures (stops c.in-Err.fault _ _ _ _ c.in-Err.ensures.err)
