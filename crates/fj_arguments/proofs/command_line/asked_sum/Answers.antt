use Rattle.clap.specs.Words.{found_of, rows_of}
use Rattle.fj_arguments.proofs.Unasked.{no_sum}
use Rattle.fj_arguments.proofs.command_line.asked_sum.Goals as goal

pub returns-in_err-read_range-clause-none : goal.returns-in_err-read_range-clause-none
returns-in_err-read_range-clause-none c = rw c.from_residual.ensures (no_sum (rows_of (found_of c.args.given.now)) (λ o ranges gives. c.in_err-read_range.ensures.none o ranges gives))
