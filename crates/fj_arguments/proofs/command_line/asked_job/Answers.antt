use Rattle.std.proofs.Common.{codes, refl}
use Rattle.std.proofs.lemmas.Option.{IfSome_then}
use Rattle.clap.specs.Words.{found_of, rows_of}
use Rattle.fj_arguments.proofs.Unasked.{asks_job, if_none_then, met_job}
use Rattle.fj_arguments.proofs.command_line.asked_job.Goals as goal

pub returns-in-Some-clause-asked : goal.returns-in-Some-clause-asked
returns-in-Some-clause-asked c =
    IfSome_then c.asked_sum.result c.asked_sum.ensures.asked
    (asks_job c.args.matches.now (codes "sum") (rows_of (found_of c.in-Some.given.now)) (c.in-Some.ensures.found.0 refl) c.in-Some.ensures.rows)

pub returns-in-Some-clause-none : goal.returns-in-Some-clause-none
returns-in-Some-clause-none c =
    if_none_then c.asked_sum.result c.asked_sum.ensures.none
    (λ none job is asked. none job is (met_job c.args.matches.now (codes "sum") (rows_of (found_of c.in-Some.given.now)) (c.in-Some.ensures.found.0 refl) c.in-Some.ensures.rows job asked))

pub returns-in-Some-subcommand_matches-clause-asked : goal.returns-in-Some-subcommand_matches-clause-asked
returns-in-Some-subcommand_matches-clause-asked c =
    IfSome_then c.asked_min.result c.asked_min.ensures.asked
    (asks_job c.args.matches.now (codes "min") (rows_of (found_of c.in-Some-subcommand_matches.given.now)) (c.in-Some-subcommand_matches.ensures.found.0 refl) c.in-Some-subcommand_matches.ensures.rows)

pub returns-in-Some-subcommand_matches-clause-none : goal.returns-in-Some-subcommand_matches-clause-none
returns-in-Some-subcommand_matches-clause-none c =
    if_none_then c.asked_min.result c.asked_min.ensures.none
    (λ none job is asked. none job is (met_job c.args.matches.now (codes "min") (rows_of (found_of c.in-Some-subcommand_matches.given.now)) (c.in-Some-subcommand_matches.ensures.found.0 refl) c.in-Some-subcommand_matches.ensures.rows job asked))

pub returns-in-Some-subcommand_matches-2-clause-asked : goal.returns-in-Some-subcommand_matches-2-clause-asked
returns-in-Some-subcommand_matches-2-clause-asked c =
    IfSome_then c.asked_find.result c.asked_find.ensures.asked
    (asks_job c.args.matches.now (codes "find") (rows_of (found_of c.in-Some-subcommand_matches-2.given.now)) (c.in-Some-subcommand_matches-2.ensures.found.0 refl) c.in-Some-subcommand_matches-2.ensures.rows)

pub returns-in-Some-subcommand_matches-2-clause-none : goal.returns-in-Some-subcommand_matches-2-clause-none
returns-in-Some-subcommand_matches-2-clause-none c =
    if_none_then c.asked_find.result c.asked_find.ensures.none
    (λ none job is asked. none job is (met_job c.args.matches.now (codes "find") (rows_of (found_of c.in-Some-subcommand_matches-2.given.now)) (c.in-Some-subcommand_matches-2.ensures.found.0 refl) c.in-Some-subcommand_matches-2.ensures.rows job asked))

pub returns-in-Some-subcommand_matches-3-clause-asked : goal.returns-in-Some-subcommand_matches-3-clause-asked
returns-in-Some-subcommand_matches-3-clause-asked c =
    IfSome_then c.asked_tree.result c.asked_tree.ensures.asked
    (asks_job c.args.matches.now (codes "tree") (rows_of (found_of c.in-Some-subcommand_matches-3.given.now)) (c.in-Some-subcommand_matches-3.ensures.found.0 refl) c.in-Some-subcommand_matches-3.ensures.rows)

pub returns-in-Some-subcommand_matches-3-clause-none : goal.returns-in-Some-subcommand_matches-3-clause-none
returns-in-Some-subcommand_matches-3-clause-none c =
    if_none_then c.asked_tree.result c.asked_tree.ensures.none
    (λ none job is asked. none job is (met_job c.args.matches.now (codes "tree") (rows_of (found_of c.in-Some-subcommand_matches-3.given.now)) (c.in-Some-subcommand_matches-3.ensures.found.0 refl) c.in-Some-subcommand_matches-3.ensures.rows job asked))
