-- The values of a command's options in the arguments.
use Rattle.std.specs.Prelude.{ℕ, ⊤, ◌≡◌, ◌≢◌, ◌≤◌, ◌↔◌, ◌++◌, Bool, true, List, Option, Some, None}
use Rattle.std.specs.Prelude.{codes}
use Rattle.std.specs.Str.Parse.{IsNumeral, digits_value, without_leading_plus}
use Rattle.clap.specs.Words.{Row, Text, first_of, one_of}
use Rattle.fj_rules.specs.declared.limits.TheConstants.{MAX_WORKERS}
use Rattle.fj_arguments.specs.declared.command_line.Subcommand.{Subcommand}
use Rattle.fj_arguments.specs.declared.command_line.Subcommand.TheVariants.{Replay, Upgrade, Compute, Record, Check, Trace, Test, Explain, View}
use Rattle.fj_arguments.specs.declared.command_line.Job.{Job}
use Rattle.fj_arguments.specs.declared.command_line.Job.TheVariants.{Sum, Min, Find, Tree}
use Rattle.fj_arguments.specs.declared.options.RangeOptions.{RangeOptions}
use Rattle.fj_arguments.specs.declared.options.FunctionOptions.{FunctionOptions}
use Rattle.fj_arguments.specs.declared.options.ViewName.{ViewName}
use Rattle.fj_arguments.specs.declared.options.ViewName.TheVariants as view
use Rattle.fj_arguments.specs.declared.options.ViewOptions.{ViewOptions}

-- the text of an option, given or by default, is this number in decimal digits; a plus may stand before them
abbrev pub Gives : List Row → Text → ℕ → Type 0
Gives rows option n =
    (text : Text) × (one_of option rows ≡ Some text) × IsNumeral 10 (without_leading_plus text) × (n ≡ digits_value 10 (without_leading_plus text))

-- whether a flag is given, by its text
abbrev pub GivesFlag : List Row → Text → Bool → Type 0
GivesFlag rows flag given = (given ≡ true) ↔ (one_of flag rows ≡ Some (codes "true"))

pub record GivesRange (rows : List Row) (o : RangeOptions) : Type 0 where
  pub from : Gives rows (codes "from") o.from
  pub to : Gives rows (codes "to") o.to
  pub grain : Gives rows (codes "grain") o.grain
  pub workers : Gives rows (codes "workers") o.workers.count
  pub eager : GivesFlag rows (codes "eager") o.eager

pub record GivesFunction (rows : List Row) (f : FunctionOptions) : Type 0 where
  pub mul : Gives rows (codes "mul") f.mul
  pub add : Gives rows (codes "add") f.add
  pub modulus : Gives rows (codes "mod") f.modulus

-- the job has these values
abbrev pub GivesJob : List Row → Job → Type 0
GivesJob rows (Sum o) = GivesRange rows o
GivesJob rows (Min o f) = GivesRange rows o × GivesFunction rows f
GivesJob rows (Find o f want) = GivesRange rows o × GivesFunction rows f × Gives rows (codes "want") want
GivesJob rows (Tree workers) = Gives rows (codes "workers") workers.count

-- the text names this view, or none
abbrev pub NamesView : Text → Option ViewName → Type 0
NamesView text (Some view.Tasks) = text ≡ codes "tasks"
NamesView text (Some view.Stats) = text ≡ codes "stats"
NamesView text (Some view.Path) = text ≡ codes "path"
NamesView text (Some view.Chrome) = text ≡ codes "chrome"
NamesView text (Some view.Dot) = text ≡ codes "dot"
NamesView text (Some view.Svg) = text ≡ codes "svg"
NamesView text None =
    (text ≢ codes "tasks") × (text ≢ codes "stats") × (text ≢ codes "path") × (text ≢ codes "chrome") × (text ≢ codes "dot") × (text ≢ codes "svg")

-- the text of the option names this view, or none
abbrev pub GivesViewName : List Row → Option ViewName → Type 0
GivesViewName rows name = (text : Text) × (first_of (codes "as") rows ≡ Some text) × NamesView text name

pub record GivesView (rows : List Row) (o : ViewOptions) : Type 0 where
  pub name : GivesViewName rows o.name
  pub from : Gives rows (codes "from") o.from
  pub to : Gives rows (codes "to") o.to

-- the command to run has these values
abbrev pub GivesOptions : List Row → Subcommand → Type 0
GivesOptions rows Replay = ⊤
GivesOptions rows Upgrade = ⊤
GivesOptions rows (Compute job) = GivesJob rows job
GivesOptions rows (Record job notes) = GivesJob rows job
GivesOptions rows Check = ⊤
GivesOptions rows Trace = ⊤
GivesOptions rows Test = ⊤
GivesOptions rows Explain = ⊤
GivesOptions rows (View o) = GivesView rows o

-- ---- ranges

-- each number is in its range
abbrev pub IsInRange : ℕ → ℕ → ℕ → Type 0
IsInRange n least most = (least ≤ n) × (n ≤ most)

pub record IsRange (o : RangeOptions) : Type 0 where
  pub from : IsInRange o.from 0 4294967295
  pub to : IsInRange o.to 0 4294967295
  pub grain : IsInRange o.grain 1 4294967295
  pub workers : IsInRange o.workers.count 1 MAX_WORKERS

pub record IsFunction (f : FunctionOptions) : Type 0 where
  pub mul : IsInRange f.mul 0 4294967295
  pub add : IsInRange f.add 0 4294967295
  pub modulus : IsInRange f.modulus 1 4294967295

pub record IsWindow (o : ViewOptions) : Type 0 where
  pub from : IsInRange o.from 1 4294967295
  pub to : IsInRange o.to 1 4294967295

abbrev pub IsJob : Job → Type 0
IsJob (Sum o) = IsRange o
IsJob (Min o f) = IsRange o × IsFunction f
IsJob (Find o f want) = IsRange o × IsFunction f × IsInRange want 0 4294967295
IsJob (Tree workers) = IsInRange workers.count 1 MAX_WORKERS

-- it records nothing, and the numbers of its options are in their ranges
abbrev pub IsPlain : Subcommand → Type 0
IsPlain (Compute job) = IsJob job
IsPlain (Record job notes) = ⊥
IsPlain (View o) = IsWindow o
IsPlain _ = ⊤

-- ---- names

-- the name of a job
abbrev pub job_name : Job → Text
job_name (Sum o) = codes "sum"
job_name (Min o f) = codes "min"
job_name (Find o f want) = codes "find"
job_name (Tree workers) = codes "tree"

-- the name of a command; that of a recorded job has two words
abbrev pub name_of : Subcommand → Text
name_of Replay = codes "replay"
name_of Upgrade = codes "upgrade"
name_of (Compute job) = job_name job
name_of (Record job notes) = codes "record " ++ job_name job
name_of Check = codes "check"
name_of Trace = codes "trace"
name_of Test = codes "test"
name_of Explain = codes "explain"
name_of (View o) = codes "view"

-- the name is that of the job, and the options are its options
abbrev pub IsMetJob : Text → List Row → Job → Type 0
IsMetJob name rows job = (name ≡ job_name job) × GivesJob rows job

-- the command of this name, with these options, is the job
abbrev pub IsAskedJob : Option (Text × List Row) → Job → Type 0
IsAskedJob met job = (rows : List Row) × (met ≡ Some (job_name job, rows)) × GivesJob rows job

-- the command of this name, with these options, is the command to run
abbrev pub IsAsked : Option (Text × List Row) → Subcommand → Type 0
IsAsked met asked = (rows : List Row) × (met ≡ Some (name_of asked, rows)) × GivesOptions rows asked

-- no command that has a text as input, and no options, is the command to run
pub record AsksForNoText (met : Option (Text × List Row)) : Type 0 where
  pub check : ¬ IsAsked met Check
  pub trace : ¬ IsAsked met Trace
  pub test : ¬ IsAsked met Test
  pub explain : ¬ IsAsked met Explain
