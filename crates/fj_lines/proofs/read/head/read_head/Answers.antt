-- What the words of the line say is what the line says.
use Rattle.fj_lines.specs.Lines.{head_in}
use Rattle.fj_lines.specs.Words.{words_behind, Reads}
use Rattle.fj_lines.proofs.Reading.HeadLaws.{head_tells, head_written, head_read, head_read_short, head_again}
use Rattle.fj_lines.proofs.read.head.read_head.Goals as goal

tells : (c : goal.After-head_said) → Reads (head_in c.args.line.now) c.head_said.result
tells c = head_tells c.args.line.now c.first_word.result.0.now (words_behind c.first_word.result.1.now) c.head_said.result c.first_word.ensures c.head_said.ensures

pub returns-clause-value : goal.returns-clause-value
returns-clause-value c = tells c

pub returns-clause-written : goal.returns-clause-written
returns-clause-written c = head_written c.args.line.now c.head_said.result (tells c)

pub returns-clause-read : goal.returns-clause-read
returns-clause-read c = head_read c.args.line.now c.head_said.result (tells c)

pub returns-clause-short : goal.returns-clause-short
returns-clause-short c = head_read_short c.args.line.now c.head_said.result (tells c)

pub returns-clause-again : goal.returns-clause-again
returns-clause-again c = head_again
