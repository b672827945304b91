use Rattle.std.proofs.Common.{◌≡◌, ◌∙◌, sym, subst, ap, ap₂, refl, map, codes, true, Some, Option, List}
use Rattle.clap.specs.Words.{App, HasKind, HasMatchesOf, Text, fault_of, is_simple, is_simple_and_free, takes, subcommand_of, subcommand_rows_of, subcommand_name_of}
use Rattle.clap.specs.declared.parser.matches.ArgMatches.{ArgMatches}
use Rattle.std.specs.Prelude.{IfNone, IfSome}
use Rattle.clap.proofs.OnLiterals.{clap_on_literals}
use Rattle.fj_arguments.specs.Commands.{name_in, whole_line, replay_words, upgrade_words}
use Rattle.fj_arguments.specs.declared.command_line.Subcommand.{Subcommand}
use Rattle.fj_arguments.specs.Given.{IsAsked, IsPlain}
use Rattle.fj_arguments.proofs.Unasked.{names}
use Rattle.fj_arguments.proofs.command_line.read_plain.Goals as goal

replay_taken : takes whole_line replay_words ≡ true
unfolding clap_on_literals
replay_taken = refl

upgrade_taken : takes whole_line upgrade_words ≡ true
unfolding clap_on_literals
upgrade_taken = refl

is_free : is_simple_and_free whole_line ≡ true
unfolding clap_on_literals
is_free = refl

replay_met : name_in (subcommand_of whole_line replay_words) ≡ Some (codes "replay")
unfolding clap_on_literals
replay_met = refl

upgrade_met : name_in (subcommand_of whole_line upgrade_words) ≡ Some (codes "upgrade")
unfolding clap_on_literals
upgrade_met = refl

-- the command that the matches have is the one in the words
met : (m : ArgMatches) (line : App) (words : List Text) → line ≡ whole_line → HasMatchesOf line words m → subcommand_rows_of m ≡ subcommand_of whole_line words
met m line words is has = (has (ap is_simple is)).1 ∙ ap (λ a. subcommand_of a words) is

named : (m : ArgMatches) (line : App) (words : List Text) → line ≡ whole_line → HasMatchesOf line words m → subcommand_name_of m ≡ name_in (subcommand_of whole_line words)
named m line words is has = sym (names m) ∙ ap name_in (met m line words is has)

pub returns-in-Ok-clause-asked : goal.returns-in-Ok-clause-asked
returns-in-Ok-clause-asked c =
    subst (λ there. IfSome c.asked.result (λ a. IsAsked there a)) (met c.in-Ok.matches _ _ c.in_ok-command.ensures c.in-Ok.ensures.matches) c.asked.ensures.asked

pub returns-in-Ok-clause-none : goal.returns-in-Ok-clause-none
returns-in-Ok-clause-none c = λ is a plain there.
    let none = subst (λ (o : Option Subcommand). IfNone o ((b : Subcommand) → IsPlain b → IsAsked (subcommand_rows_of c.in-Ok.matches) b → ⊥)) is c.asked.ensures.none in
    none a plain (subst (λ rows. IsAsked rows a) (sym (met c.in-Ok.matches _ _ c.in_ok-command.ensures c.in-Ok.ensures.matches)) there)

pub returns-in-Ok-clause-replay : goal.returns-in-Ok-clause-replay
returns-in-Ok-clause-replay c =
    let name = named c.in-Ok.matches _ _ c.in_ok-command.ensures c.in-Ok.ensures.matches in
    (λ e. sym name ∙ c.asked.ensures.replay.0 e, λ there. c.asked.ensures.replay.1 (name ∙ there))

pub returns-in-Ok-clause-upgrade : goal.returns-in-Ok-clause-upgrade
returns-in-Ok-clause-upgrade c =
    let name = named c.in-Ok.matches _ _ c.in_ok-command.ensures c.in-Ok.ensures.matches in
    (λ e. sym name ∙ c.asked.ensures.upgrade.0 e, λ there. c.asked.ensures.upgrade.1 (name ∙ there))

pub returns-in-Ok-clause-known : goal.returns-in-Ok-clause-known
returns-in-Ok-clause-known c =
    let name = named c.in-Ok.matches _ _ c.in_ok-command.ensures c.in-Ok.ensures.matches in (
      λ are. c.asked.ensures.replay.1 (name ∙ (ap (λ words. name_in (subcommand_of whole_line words)) are ∙ replay_met)),
      λ are. c.asked.ensures.upgrade.1 (name ∙ (ap (λ words. name_in (subcommand_of whole_line words)) are ∙ upgrade_met)),
    )

pub returns-in-Err-clause-known : goal.returns-in-Err-clause-known
returns-in-Err-clause-known c =
    let is = c.in_ok-command.ensures in
    (λ are. c.in-Err.ensures.passes (ap₂ takes is are ∙ replay_taken), λ are. c.in-Err.ensures.passes (ap₂ takes is are ∙ upgrade_taken))

pub returns-in-Err-clause-fault : goal.returns-in-Err-clause-fault
returns-in-Err-clause-fault c =
    let is = c.in_ok-command.ensures in
    subst (λ line. HasKind (fault_of line (map (λ word. word.now) c.args.words.now)) c.in-Err.error) is (c.in-Err.ensures.kinds (ap is_simple_and_free is ∙ is_free))
