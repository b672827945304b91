-- What the words of the line say is what the line says.
use Rattle.fj_lines.specs.Words.{words_behind, Reads}
use Rattle.fj_notes.specs.Notes.{note_in}
use Rattle.fj_notes.proofs.Lines.NoteAgain.{note_again}
use Rattle.fj_notes.proofs.Lines.NoteLaws.{note_tells, note_written, note_read, note_read_short}
use Rattle.fj_notes.proofs.read.read_note.Goals as goal

tells : (c : goal.After-note_said) → Reads (note_in c.args.line.now) c.note_said.result
tells c = note_tells c.args.line.now c.first_word.result.0.now (words_behind c.first_word.result.1.now) c.note_said.result c.first_word.ensures c.note_said.ensures

pub returns-clause-value : goal.returns-clause-value
returns-clause-value c = tells c

pub returns-clause-written : goal.returns-clause-written
returns-clause-written c = note_written c.args.line.now c.note_said.result (tells c)

pub returns-clause-read : goal.returns-clause-read
returns-clause-read c = note_read c.args.line.now c.note_said.result (tells c)

pub returns-clause-short : goal.returns-clause-short
returns-clause-short c = note_read_short c.args.line.now c.note_said.result (tells c)

pub returns-clause-again : goal.returns-clause-again
returns-clause-again c = note_again
