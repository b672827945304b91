use Rattle.clap.specs.Words.{found_of, rows_of}
use Rattle.fj_arguments.proofs.Unasked.{no_tree}
use Rattle.fj_arguments.proofs.command_line.asked_tree.Goals as goal

pub returns-in_err-read_workers-clause-none : goal.returns-in_err-read_workers-clause-none
returns-in_err-read_workers-clause-none c = rw c.from_residual.ensures (no_tree (rows_of (found_of c.args.given.now)) (λ n within gives. c.in_err-read_workers.ensures.none n within gives))
