-- What the words of the line say is what the line says.
use Rattle.fj_lines.specs.Lines.{line2_in}
use Rattle.fj_lines.specs.Words.{Reads}
use Rattle.fj_lines.proofs.Reading.NamedLaws.{line2_written, line2_read, line2_read_short, line2_again}
use Rattle.fj_lines.proofs.read.line2.read_line2.Goals as goal

tells : (c : goal.After-read_line) → Reads (line2_in c.args.line.now) c.read_line.result
unfolding line2_in
tells c = c.read_line.ensures

pub returns-clause-value : goal.returns-clause-value
returns-clause-value c = tells c

pub returns-clause-written : goal.returns-clause-written
returns-clause-written c = line2_written c.args.line.now c.read_line.result (tells c)

pub returns-clause-read : goal.returns-clause-read
returns-clause-read c = line2_read c.args.line.now c.read_line.result (tells c)

pub returns-clause-short : goal.returns-clause-short
returns-clause-short c = line2_read_short c.args.line.now c.read_line.result (tells c)

pub returns-clause-again : goal.returns-clause-again
returns-clause-again c = line2_again
