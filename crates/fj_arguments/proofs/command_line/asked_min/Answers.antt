use Rattle.clap.specs.Words.{found_of, rows_of}
use Rattle.fj_arguments.proofs.Unasked.{no_min}
use Rattle.fj_arguments.proofs.command_line.asked_min.Goals as goal

pub returns-in_err-read_range-clause-none : goal.returns-in_err-read_range-clause-none
returns-in_err-read_range-clause-none c = rw c.from_residual.ensures
    (no_min (rows_of (found_of c.args.given.now)) (λ o f ranges factors gives function. c.in_err-read_range.ensures.none o ranges gives))

pub returns-in_err-read_function-clause-none : goal.returns-in_err-read_function-clause-none
returns-in_err-read_function-clause-none c = rw c.from_residual-in_err-read_function.ensures
    (no_min (rows_of (found_of c.args.given.now)) (λ o f ranges factors gives function. c.in_err-read_function.ensures.none f factors function))
