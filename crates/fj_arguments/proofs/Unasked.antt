-- What the arguments do not ask for.
use Rattle.std.proofs.Common.{ℕ, ◌≡◌, ◌≢◌, ◌+◌, ◌*◌, ◌∙◌, sym, subst, ap, ap₂, refl, arith, List, [], ◌∷◌, Option, Some, None, option_map, codes}
use Rattle.std.specs.Option.{IfNone, unwrap_or}
use Rattle.std.specs.Box.{box_value}
use Rattle.clap.specs.Words.{Row, Text, subcommand_rows, subcommand_rows_of, subcommand_name_of}
use Rattle.clap.specs.declared.parser.matches.ArgMatches.{ArgMatches}
use Rattle.clap.specs.declared.parser.matches.ArgMatches.TheViews.{out-ArgMatches, out-SubCommand}
use Rattle.fj_rules.specs.declared.limits.TheConstants.{MAX_WORKERS}
use Rattle.fj_arguments.specs.declared.command_line.Subcommand.{Subcommand}
use Rattle.fj_arguments.specs.declared.command_line.Subcommand.TheVariants.{Replay, Upgrade, Compute, Record, Check, Trace, Test, Explain, View}
use Rattle.fj_arguments.specs.declared.command_line.Job.{Job}
use Rattle.fj_arguments.specs.declared.command_line.Job.TheVariants.{Sum, Min, Find, Tree}
use Rattle.fj_arguments.specs.declared.options.FunctionOptions.{FunctionOptions}
use Rattle.fj_arguments.specs.declared.options.RangeOptions.{RangeOptions}
use Rattle.fj_arguments.specs.declared.options.ViewOptions.{ViewOptions}
use Rattle.fj_arguments.specs.Commands.{name_in}
use Rattle.fj_arguments.specs.Given.{AsksForNoText, Gives, GivesFunction, GivesJob, GivesOptions, GivesRange, GivesView, IsAsked, IsAskedJob, IsFunction, IsInRange, IsJob, IsMetJob, IsPlain, IsRange, IsWindow, job_name, name_of}

-- the name of the rows is the name
pub names : (m : ArgMatches) → name_in (subcommand_rows_of m) ≡ subcommand_name_of m
names m =
    elim ((out-ArgMatches m).subcommand) as (λ o. name_in (subcommand_rows o) ≡ option_map (λ b. (out-SubCommand (box_value b)).name.now) o) [
      | None ↦ refl
      | Some b ↦ refl
    ]

text_in : (a b : Text) → Some a ≡ Some b → a ≡ b
text_in a b e = ap (λ (o : Option Text). unwrap_or o []) e

rows_in : (a b : List Row) → Some a ≡ Some b → a ≡ b
rows_in a b e = ap (λ (o : Option (List Row)). unwrap_or o []) e

-- what follows from what a clause says where there is no value
pub if_none_then : {X P Q : Type 0} (o : Option X) → IfNone o P → (P → Q) → IfNone o Q
if_none_then None p follows = follows p
if_none_then (Some x) p follows = p

-- another number for each name of a command
abbrev tag : Text → ℕ
tag (a ∷ b ∷ c ∷ others) = 5 * a + c
tag _ = 0

named : (m : ArgMatches) (name : Text) (rows : List Row) → subcommand_rows_of m ≡ Some (name, rows) → subcommand_name_of m ≡ Some name
named m name rows is = sym (names m) ∙ ap name_in is

module _ (m : ArgMatches) (name : Text) (given : List Row) (is : subcommand_name_of m ≡ Some name)
    (has : option_map (λ (p : Text × List Row). p.1) (subcommand_rows_of m) ≡ Some given) where
  -- what is asked for has the name that was met, and is given by its rows
  same_name : (other : Text) (rows : List Row) → subcommand_rows_of m ≡ Some (other, rows) → name ≡ other
  same_name other rows met = text_in name other (sym is ∙ named m other rows met)

  same_rows : (other : Text) (rows : List Row) → subcommand_rows_of m ≡ Some (other, rows) → rows ≡ given
  same_rows other rows met = rows_in rows given (sym (ap (option_map (λ (p : Text × List Row). p.1)) met) ∙ has)

  pub met_job : (job : Job) → IsAskedJob (subcommand_rows_of m) job → (name ≡ job_name job) × GivesJob given job
  met_job job asked =
      (same_name (job_name job) asked.0 asked.1, subst (λ (rows : List Row). GivesJob rows job) (same_rows (job_name job) asked.0 asked.1) asked.2)

  pub met_command : (a : Subcommand) → IsAsked (subcommand_rows_of m) a → (name ≡ name_of a) × GivesOptions given a
  met_command a asked =
      (same_name (name_of a) asked.0 asked.1, subst (λ (rows : List Row). GivesOptions rows a) (same_rows (name_of a) asked.0 asked.1) asked.2)

  met_both : (o : Option (Text × List Row)) → name_in o ≡ Some name → option_map (λ (p : Text × List Row). p.1) o ≡ Some given → o ≡ Some (name, given)
  met_both None none gives = absurd cc
  met_both (Some met) names gives = ap₂ (λ (a : Text) (b : List Row). Some (a, b)) (text_in met.0 name names) (rows_in met.1 given gives)

  -- a job of this name that has these options is asked for
  pub asks_job : (job : Job) → IsMetJob name given job → IsAskedJob (subcommand_rows_of m) job
  asks_job job met =
      (given, met_both (subcommand_rows_of m) (names m ∙ is) has ∙ ap (λ (t : Text). Some (t, given)) met.0, met.1)

-- ---- a job that was met, of which some option gives no number

pub no_sum : (rows : List Row) → ((o : RangeOptions) → IsRange o → GivesRange rows o → ⊥) → (job : Job) → IsJob job → (codes "sum" ≡ job_name job) × GivesJob rows job → ⊥
no_sum rows none (Sum o) is met = none o is met.1
no_sum rows none (Min o f) is met = let other : 684 ≡ 655 = ap tag met.0 in omega (arith, other)
no_sum rows none (Find o f want) is met = let other : 684 ≡ 620 = ap tag met.0 in omega (arith, other)
no_sum rows none (Tree workers) is met = let other : 684 ≡ 681 = ap tag met.0 in omega (arith, other)

pub no_min : (rows : List Row) → ((o : RangeOptions) (f : FunctionOptions) → IsRange o → IsFunction f → GivesRange rows o → GivesFunction rows f → ⊥) → (job : Job) → IsJob job
    → (codes "min" ≡ job_name job) × GivesJob rows job → ⊥
no_min rows none (Sum o) is met = let other : 655 ≡ 684 = ap tag met.0 in omega (arith, other)
no_min rows none (Min o f) is met = none o f is.0 is.1 met.1.0 met.1.1
no_min rows none (Find o f want) is met = let other : 655 ≡ 620 = ap tag met.0 in omega (arith, other)
no_min rows none (Tree workers) is met = let other : 655 ≡ 681 = ap tag met.0 in omega (arith, other)

pub no_find : (rows : List Row)
    → ((o : RangeOptions) (f : FunctionOptions) (want : ℕ) → IsRange o → IsFunction f → IsInRange want 0 4294967295 → GivesRange rows o → GivesFunction rows f → Gives rows (codes "want") want → ⊥)
    → (job : Job) → IsJob job → (codes "find" ≡ job_name job) × GivesJob rows job → ⊥
no_find rows none (Sum o) is met = let other : 620 ≡ 684 = ap tag met.0 in omega (arith, other)
no_find rows none (Min o f) is met = let other : 620 ≡ 655 = ap tag met.0 in omega (arith, other)
no_find rows none (Find o f want) is met = none o f want is.0 is.1 is.2 met.1.0 met.1.1 met.1.2
no_find rows none (Tree workers) is met = let other : 620 ≡ 681 = ap tag met.0 in omega (arith, other)

pub no_tree : (rows : List Row) → ((n : ℕ) → IsInRange n 1 MAX_WORKERS → Gives rows (codes "workers") n → ⊥) → (job : Job) → IsJob job → (codes "tree" ≡ job_name job) × GivesJob rows job → ⊥
no_tree rows none (Sum o) is met = let other : 681 ≡ 684 = ap tag met.0 in omega (arith, other)
no_tree rows none (Min o f) is met = let other : 681 ≡ 655 = ap tag met.0 in omega (arith, other)
no_tree rows none (Find o f want) is met = let other : 681 ≡ 620 = ap tag met.0 in omega (arith, other)
no_tree rows none (Tree workers) is met = none workers.count is met.1

-- ---- another command

-- a view was met, of which some option gives no number
pub no_view : (rows : List Row) → ((o : ViewOptions) → IsWindow o → GivesView rows o → ⊥) → (a : Subcommand) → IsPlain a → (codes "view" ≡ name_of a) × GivesOptions rows a → ⊥
no_view rows none Replay is met = let other : 691 ≡ 682 = ap tag met.0 in omega (arith, other)
no_view rows none Upgrade is met = let other : 691 ≡ 688 = ap tag met.0 in omega (arith, other)
no_view rows none (Compute (Sum o)) is met = let other : 691 ≡ 684 = ap tag met.0 in omega (arith, other)
no_view rows none (Compute (Min o f)) is met = let other : 691 ≡ 655 = ap tag met.0 in omega (arith, other)
no_view rows none (Compute (Find o f want)) is met = let other : 691 ≡ 620 = ap tag met.0 in omega (arith, other)
no_view rows none (Compute (Tree workers)) is met = let other : 691 ≡ 681 = ap tag met.0 in omega (arith, other)
no_view rows none (Record job notes) is met = absurd is
no_view rows none Check is met = let other : 691 ≡ 596 = ap tag met.0 in omega (arith, other)
no_view rows none Trace is met = let other : 691 ≡ 677 = ap tag met.0 in omega (arith, other)
no_view rows none Test is met = let other : 691 ≡ 695 = ap tag met.0 in omega (arith, other)
no_view rows none Explain is met = let other : 691 ≡ 617 = ap tag met.0 in omega (arith, other)
no_view rows none (View o) is met = none o is met.1

-- no other command was met
pub no_other : (m : ArgMatches) → AsksForNoText (subcommand_rows_of m) → (subcommand_name_of m ≢ Some (codes "view")) → ((job : Job) → IsJob job → IsAskedJob (subcommand_rows_of m) job → ⊥)
    → (a : Subcommand) → (a ≢ Replay) → (a ≢ Upgrade) → IsPlain a → IsAsked (subcommand_rows_of m) a → ⊥
no_other m texts view jobs Replay replay upgrade is asked = replay refl
no_other m texts view jobs Upgrade replay upgrade is asked = upgrade refl
no_other m texts view jobs (Compute job) replay upgrade is asked = jobs job is asked
no_other m texts view jobs (Record job notes) replay upgrade is asked = absurd is
no_other m texts view jobs Check replay upgrade is asked = texts.check asked
no_other m texts view jobs Trace replay upgrade is asked = texts.trace asked
no_other m texts view jobs Test replay upgrade is asked = texts.test asked
no_other m texts view jobs Explain replay upgrade is asked = texts.explain asked
no_other m texts view jobs (View o) replay upgrade is asked = view (named m (codes "view") asked.0 asked.1)
