-- What the words of the line say is what the line says.
use Rattle.fj_lines.specs.Words.{words_behind, Reads}
use Rattle.fj_history.specs.Entries.{entry_in}
use Rattle.fj_history.proofs.Entries.EntryAgain.{entry_again}
use Rattle.fj_history.proofs.Entries.EntryLaws.{entry_tells, entry_written, entry_read, entry_read_short}
use Rattle.fj_history.proofs.read.read_entry.Goals as goal

tells : (c : goal.After-entry_said) → Reads (entry_in c.args.line.now) c.entry_said.result
tells c = entry_tells c.args.line.now c.first_word.result.0.now (words_behind c.first_word.result.1.now) c.entry_said.result c.first_word.ensures c.entry_said.ensures

pub returns-clause-value : goal.returns-clause-value
returns-clause-value c = tells c

pub returns-clause-written : goal.returns-clause-written
returns-clause-written c = entry_written c.args.line.now c.entry_said.result (tells c)

pub returns-clause-read : goal.returns-clause-read
returns-clause-read c = entry_read c.args.line.now c.entry_said.result (tells c)

pub returns-clause-short : goal.returns-clause-short
returns-clause-short c = entry_read_short c.args.line.now c.entry_said.result (tells c)

pub returns-clause-again : goal.returns-clause-again
returns-clause-again c = entry_again
