use Rattle.std.proofs.Common.{◌≡◌, ◌∙◌, sym, subst, ap, refl, map, true, List, option_map}
use Rattle.clap.specs.Words.{App, HasKind, HasMatchesOf, Text, fault_of, is_simple, is_simple_and_free, subcommand_of, subcommand_rows_of}
use Rattle.clap.specs.declared.parser.matches.ArgMatches.{ArgMatches}
use Rattle.clap.proofs.OnLiterals.{clap_on_literals}
use Rattle.fj_arguments.specs.Commands.{record_line, recorded_as}
use Rattle.fj_arguments.specs.Given.{IsAskedJob}
use Rattle.fj_arguments.proofs.command_line.read_recorded.Goals as goal

is_free : is_simple_and_free record_line ≡ true
unfolding clap_on_literals
is_free = refl

-- the job that the matches have is the one in the words
met : (m : ArgMatches) (line : App) (words : List Text) → line ≡ record_line → HasMatchesOf line words m → subcommand_rows_of m ≡ subcommand_of record_line words
met m line words is has = (has (ap is_simple is)).1 ∙ ap (λ a. subcommand_of a words) is

pub returns-in-Some-clause-asked : goal.returns-in-Some-clause-asked
returns-in-Some-clause-asked c =
    let asked = c.in-Some.ensures.asked in
    let there = met c.in-Ok.matches _ _ c.in_ok-record_command.ensures c.in-Ok.ensures.matches in
    (asked.0, ap (option_map recorded_as) (sym there ∙ asked.1), asked.2)

pub returns-in-Ok-clause-none : goal.returns-in-Ok-clause-none
returns-in-Ok-clause-none c = λ is job numbers there.
    c.in-None.ensures.none job numbers (subst (λ rows. IsAskedJob rows job) (sym (met c.in-Ok.matches _ _ c.in_ok-record_command.ensures c.in-Ok.ensures.matches)) there)

pub returns-clause-fault : goal.returns-clause-fault
returns-clause-fault c =
    let is = c.in_ok-record_command.ensures in
    subst (λ line. HasKind (fault_of line (map (λ word. word.now) c.args.words.now)) c.in-Err.error) is (c.in-Err.ensures.kinds (ap is_simple_and_free is ∙ is_free))
