use Rattle.std.proofs.Common.{ℕ, ◌≡◌, ◌↔◌, ◌∙◌, sym, ap, subst, refl, codes, Option, Some, None, List, [], ◌∷◌, arith}
use Rattle.std.specs.Prelude.{IfOk, IfErr, IfSome, option_map}
use Rattle.std.proofs.lemmas.Result.{MatchResult-weaker}
use Rattle.clap.specs.Walk.{texts}
use Rattle.clap.specs.Words.{HasKind, Row, Text}
use Rattle.fj_arguments.specs.declared.command_line.Subcommand.TheVariants.{Replay, Upgrade}
use Rattle.fj_arguments.specs.Commands.{AsksNothingBy, command_by, faults_by, name_in, recorded_as, recorded_in, replay_words, upgrade_words}
use Rattle.fj_arguments.specs.Given.{IsAsked}
use Rattle.fj_arguments.proofs.command_line.read.Goals as goal

-- a recorded job is no replay, and no upgrade
no_replay : (o : Option (Text × List Row)) → name_in (option_map recorded_as o) ≡ Some (codes "replay") → ⊥
no_replay None is = absurd cc
no_replay (Some met) is = absurd cc

abbrev first : Option Text → ℕ
first None = 0
first (Some []) = 0
first (Some (x ∷ xs)) = x

no_upgrade : (o : Option (Text × List Row)) → name_in (option_map recorded_as o) ≡ Some (codes "upgrade") → ⊥
no_upgrade None is = absurd cc
no_upgrade (Some met) is = let other : 114 ≡ 117 = ap first is in absurd (omega (arith, other))

-- the words of a replay or an upgrade record nothing
replay_plain : recorded_in replay_words ≡ None
replay_plain = refl

upgrade_plain : recorded_in upgrade_words ≡ None
upgrade_plain = refl

none_or_some : (o : Option (List Text)) (job : List Text) → o ≡ None → o ≡ Some job → ⊥
none_or_some o job none some = let is : None ≡ Some job = sym none ∙ some in absurd cc

pub returns-in-Some-clause-asked : goal.returns-in-Some-clause-asked
returns-in-Some-clause-asked c =
    subst (λ (o : Option (List Text)). IfOk c.read_recorded.result (λ asked. IfSome asked (λ a. IsAsked (command_by o (texts c.args.words.now)) a))) (sym c.in-Some.ensures.some) c.read_recorded.ensures.asked

pub returns-in-Some-clause-none : goal.returns-in-Some-clause-none
returns-in-Some-clause-none c =
    subst (λ (o : Option (List Text)). IfOk c.read_recorded.result (λ asked. asked ≡ None → AsksNothingBy o (texts c.args.words.now))) (sym c.in-Some.ensures.some) c.read_recorded.ensures.none

pub returns-in-Some-clause-replay : goal.returns-in-Some-clause-replay
returns-in-Some-clause-replay c =
    subst (λ (o : Option (List Text)). IfOk c.read_recorded.result (λ asked. (asked ≡ Some Replay) ↔ (name_in (command_by o (texts c.args.words.now)) ≡ Some (codes "replay")))) (sym c.in-Some.ensures.some)
    (MatchResult-weaker c.read_recorded.result c.read_recorded.ensures.job (λ asked other. (λ is. absurd (other.0 is), λ named. absurd (no_replay _ named))) (λ _ same. same))

pub returns-in-Some-clause-upgrade : goal.returns-in-Some-clause-upgrade
returns-in-Some-clause-upgrade c =
    subst (λ (o : Option (List Text)). IfOk c.read_recorded.result (λ asked. (asked ≡ Some Upgrade) ↔ (name_in (command_by o (texts c.args.words.now)) ≡ Some (codes "upgrade")))) (sym c.in-Some.ensures.some)
    (MatchResult-weaker c.read_recorded.result c.read_recorded.ensures.job (λ asked other. (λ is. absurd (other.1 is), λ named. absurd (no_upgrade _ named))) (λ _ same. same))

pub returns-in-Some-clause-fault : goal.returns-in-Some-clause-fault
returns-in-Some-clause-fault c =
    subst (λ (o : Option (List Text)). IfErr c.read_recorded.result (λ error. HasKind (faults_by o (texts c.args.words.now)) error)) (sym c.in-Some.ensures.some) c.read_recorded.ensures.fault

pub returns-in-Some-clause-known : goal.returns-in-Some-clause-known
returns-in-Some-clause-known c = (
  λ are. absurd (none_or_some _ _ (ap recorded_in are ∙ replay_plain) c.in-Some.ensures.some),
  λ are. absurd (none_or_some _ _ (ap recorded_in are ∙ upgrade_plain) c.in-Some.ensures.some),
)

pub returns-in-None-clause-asked : goal.returns-in-None-clause-asked
returns-in-None-clause-asked c =
    subst (λ (o : Option (List Text)). IfOk c.read_plain.result (λ asked. IfSome asked (λ a. IsAsked (command_by o (texts c.args.words.now)) a))) (sym c.in-None.ensures.none) c.read_plain.ensures.asked

pub returns-in-None-clause-none : goal.returns-in-None-clause-none
returns-in-None-clause-none c =
    subst (λ (o : Option (List Text)). IfOk c.read_plain.result (λ asked. asked ≡ None → AsksNothingBy o (texts c.args.words.now))) (sym c.in-None.ensures.none) c.read_plain.ensures.none

pub returns-in-None-clause-replay : goal.returns-in-None-clause-replay
returns-in-None-clause-replay c =
    subst (λ (o : Option (List Text)). IfOk c.read_plain.result (λ asked. (asked ≡ Some Replay) ↔ (name_in (command_by o (texts c.args.words.now)) ≡ Some (codes "replay")))) (sym c.in-None.ensures.none) c.read_plain.ensures.replay

pub returns-in-None-clause-upgrade : goal.returns-in-None-clause-upgrade
returns-in-None-clause-upgrade c =
    subst (λ (o : Option (List Text)). IfOk c.read_plain.result (λ asked. (asked ≡ Some Upgrade) ↔ (name_in (command_by o (texts c.args.words.now)) ≡ Some (codes "upgrade")))) (sym c.in-None.ensures.none) c.read_plain.ensures.upgrade

pub returns-in-None-clause-fault : goal.returns-in-None-clause-fault
returns-in-None-clause-fault c =
    subst (λ (o : Option (List Text)). IfErr c.read_plain.result (λ error. HasKind (faults_by o (texts c.args.words.now)) error)) (sym c.in-None.ensures.none) c.read_plain.ensures.fault
