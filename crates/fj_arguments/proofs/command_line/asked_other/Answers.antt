use Rattle.std.proofs.Common.{◌≡◌, codes, false, refl, true}
use Rattle.clap.specs.Words.{found_of, rows_of}
use Rattle.fj_arguments.proofs.Unasked.{met_command, no_other, no_view}
use Rattle.fj_arguments.proofs.command_line.asked_other.Goals as goal

pub returns-in_err-read_view-clause-none : goal.returns-in_err-read_view-clause-none
returns-in_err-read_view-clause-none c = rw c.from_residual.ensures (λ a replay upgrade plain asked.
    no_view (rows_of (found_of c.in-Some-subcommand_matches.given.now)) (λ o is gives. c.in_err-read_view.ensures.none o is gives) a plain
    (met_command c.args.matches.now (codes "view") (rows_of (found_of c.in-Some-subcommand_matches.given.now)) (c.in-Some-subcommand_matches.ensures.found.0 refl) c.in-Some-subcommand_matches.ensures.rows a asked))

pub returns-in_err-asked_job-clause-none : goal.returns-in_err-asked_job-clause-none
returns-in_err-asked_job-clause-none c = rw c.from_residual-in_err-asked_job.ensures
    (no_other c.args.matches.now c.in_default.ensures.none (λ view. let none : false ≡ true = c.in_default-subcommand_matches.ensures.found.1 view in absurd cc) c.in_err-asked_job.ensures.none)
