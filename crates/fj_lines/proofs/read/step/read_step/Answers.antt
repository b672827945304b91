use Rattle.fj_lines.proofs.Reading.StepLaws.{step_written, step_read, step_read_short, step_again}
use Rattle.fj_lines.proofs.read.step.read_step.Goals as goal

pub returns-clause-written : goal.returns-clause-written
returns-clause-written c = step_written c.args.line.now c.step_said.result c.step_said.ensures

pub returns-clause-read : goal.returns-clause-read
returns-clause-read c = step_read c.args.line.now c.step_said.result c.step_said.ensures

pub returns-clause-short : goal.returns-clause-short
returns-clause-short c = step_read_short c.args.line.now c.step_said.result c.step_said.ensures

pub returns-clause-again : goal.returns-clause-again
returns-clause-again c = step_again
