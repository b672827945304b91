use Rattle.std.proofs.Common.{rules}
use Rattle.fj_lines.specs.Readings.Accept.{parent_said}
use Rattle.fj_history.proofs.read.parts.parent.Goals as goal

pub returns-in_err-t : goal.returns-in_err-t
unfolding parent_said
returns-in_err-t c = search rules

pub returns-then-eq : goal.returns-then-eq
unfolding parent_said
returns-then-eq c = search rules

pub returns-in_ok-t : goal.returns-in_ok-t
unfolding parent_said
returns-in_ok-t c = search rules
