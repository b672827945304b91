use Rattle.clap.specs.Words.{found_of, rows_of}
use Rattle.fj_arguments.proofs.Unasked.{no_find}
use Rattle.fj_arguments.proofs.command_line.asked_find.Goals as goal

pub returns-in_err-read_range-clause-none : goal.returns-in_err-read_range-clause-none
returns-in_err-read_range-clause-none c = rw c.from_residual.ensures
    (no_find (rows_of (found_of c.args.given.now)) (λ o f want ranges factors wanted gives function wants. c.in_err-read_range.ensures.none o ranges gives))

pub returns-in_err-read_function-clause-none : goal.returns-in_err-read_function-clause-none
returns-in_err-read_function-clause-none c = rw c.from_residual-in_err-read_function.ensures
    (no_find (rows_of (found_of c.args.given.now)) (λ o f want ranges factors wanted gives function wants. c.in_err-read_function.ensures.none f factors function))

pub returns-in_err-read_want-clause-none : goal.returns-in_err-read_want-clause-none
returns-in_err-read_want-clause-none c = rw c.from_residual-in_err-read_want.ensures
    (no_find (rows_of (found_of c.args.given.now)) (λ o f want ranges factors wanted gives function wants. c.in_err-read_want.ensures.none want wanted wants))
