-- The command line.
use Rattle.std.specs.Prelude.{◌≡◌, ◌≢◌, ◌⊎◌, ◌++◌, if◌then◌else◌, List, [], ◌∷◌, codes, true, Option, Some, None, option_map, Result, MatchResult}
use Rattle.std.specs.Str.{bytes_eq}
use Rattle.clap.specs.Words.{App, IsAmong, Kinds, Row, Text, fault_of, kind_of, new_app, subcommand_of, with_rule, with_subcommand}
use Rattle.clap.specs.Simple.{on_top}
use Rattle.clap.specs.declared.error.kind.ErrorKind.{ErrorKind}
use Rattle.clap.specs.declared.error.Error.{Error}
use Rattle.clap.specs.declared.error.kind.ErrorKind.TheVariants.{DisplayHelp, DisplayVersion, OutOfMemory}
use Rattle.fj_arguments.specs.declared.command_line.Subcommand.{Subcommand}
use Rattle.fj_arguments.specs.declared.command_line.Subcommand.TheVariants.{Replay, Upgrade}
use Rattle.fj_arguments.specs.declared.command_line.Job.{Job}
use Rattle.fj_arguments.specs.Given.{IsAsked, IsAskedJob, IsJob, IsPlain}
use Rattle.fj_arguments.specs.Options.{file_rule, sum_line, min_line, find_line, tree_line, view_line}

-- the program with its first command
abbrev pub replay_line : App
replay_line =
    with_subcommand (on_top (λ top. record top { has_version = true; subcommand_required = true }) (new_app (codes "fj"))) (new_app (codes "replay")).top

-- and with both commands for scripts
abbrev pub script_line : App
script_line = with_subcommand replay_line (new_app (codes "upgrade")).top

-- with the jobs over a range that have its options alone, and those of a function
abbrev pub with_ranges : App → App
with_ranges line = with_subcommand (with_subcommand line sum_line.top) min_line.top

-- with all jobs
abbrev pub with_jobs : App → App
with_jobs line = with_subcommand (with_subcommand (with_ranges line) find_line.top) tree_line.top

-- with a command that has no options
abbrev pub with_plain : App → Text → App
with_plain line name = with_subcommand line (new_app name).top

-- with those that have a text as input, and no options
abbrev pub with_texts : App → App
with_texts line = with_plain (with_plain (with_plain (with_plain line (codes "check")) (codes "trace")) (codes "test")) (codes "explain")

-- the whole command line, as a parse sees it, but for the arguments of `record`
abbrev pub whole_line : App
whole_line = with_subcommand (with_plain (with_texts (with_jobs script_line)) (codes "record")) view_line.top

-- the program from `record` on, without its options and jobs
abbrev pub recorder_line : App
recorder_line = on_top (λ top. record top { subcommand_required = true }) (new_app (codes "fj record"))

-- the command line from `record` on
abbrev pub record_line : App
record_line = with_jobs (with_rule recorder_line (file_rule (codes "notes")))

-- the words of a replay
abbrev pub replay_words : List Text
replay_words = codes "fj" ∷ codes "replay" ∷ []

-- the words of an upgrade
abbrev pub upgrade_words : List Text
upgrade_words = codes "fj" ∷ codes "upgrade" ∷ []

-- the words of either
abbrev pub IsForScript : List Text → Type 0
IsForScript words = (words ≡ replay_words) ⊎ (words ≡ upgrade_words)

-- the words behind the program's name, if the first of them is `record`
abbrev pub recorded_in : List Text → Option (List Text)
recorded_in (program ∷ word ∷ others) = if bytes_eq word (codes "record") then Some (word ∷ others) else None
recorded_in _ = None

-- the same job with a name of two words
abbrev pub recorded_as : Text × List Row → Text × List Row
recorded_as met = (codes "record " ++ met.0, met.1)

-- the command that a parse finds, where these are the words from `record` on
abbrev pub command_by : Option (List Text) → List Text → Option (Text × List Row)
command_by None words = subcommand_of whole_line words
command_by (Some job) words = option_map recorded_as (subcommand_of record_line job)

-- the command that a parse finds in these words, if there is one, with their values of its options
abbrev pub command_in : List Text → Option (Text × List Row)
command_in words = command_by (recorded_in words) words

abbrev pub name_in : Option (Text × List Row) → Option Text
name_in met = option_map (λ (m : Text × List Row). m.0) met

-- the words ask for this
abbrev pub Asks : List Text → Subcommand → Type 0
Asks words asked = IsAsked (command_in words) asked

-- they name this command
abbrev pub Names : Text → List Text → Type 0
Names command words = name_in (command_in words) ≡ Some command

-- where these are the words from `record` on, they ask for no job, and else the words for no other command: none has this name, or the
-- text of an option is no number in its range
abbrev pub AsksNothingBy : Option (List Text) → List Text → Type 0
AsksNothingBy None words = (asked : Subcommand) → IsPlain asked → ¬ IsAsked (subcommand_of whole_line words) asked
AsksNothingBy (Some recorded) words = (job : Job) → IsJob job → ¬ IsAskedJob (subcommand_of record_line recorded) job

abbrev pub AsksNothing : List Text → Type 0
AsksNothing words = AsksNothingBy (recorded_in words) words

-- what was read asks for this, unless out of memory
abbrev pub ReadsAs : Subcommand → Result (Option Subcommand) Error → Type 0
ReadsAs asked result = MatchResult result (λ read. read ≡ Some asked) (λ error. kind_of error ≡ OutOfMemory)

-- the words of a replay are read as one, and those of an upgrade
abbrev pub ReadsScript : List Text → Result (Option Subcommand) Error → Type 0
ReadsScript words result = (words ≡ replay_words → ReadsAs Replay result) × (words ≡ upgrade_words → ReadsAs Upgrade result)

-- the kinds of error, where these are the words from `record` on
abbrev pub faults_by : Option (List Text) → List Text → Kinds
faults_by None words = fault_of whole_line words
faults_by (Some job) words = fault_of record_line job

-- the kinds of error that a parse of these arguments may give, but for out of memory
abbrev pub faults_in : List Text → Kinds
faults_in words = faults_by (recorded_in words) words

-- the words ask for help or for the version
abbrev pub AsksToShow : List Text → Type 0
AsksToShow words = IsAmong DisplayHelp (faults_in words) ⊎ IsAmong DisplayVersion (faults_in words)

-- an error of this kind is a usage error
abbrev pub TellsOfFault : ErrorKind → Type 0
TellsOfFault kind = (kind ≢ OutOfMemory) × (kind ≢ DisplayHelp) × (kind ≢ DisplayVersion)

-- the words have a usage error
abbrev pub IsAtFault : List Text → Type 0
IsAtFault words = (kind : ErrorKind) × IsAmong kind (faults_in words) × (kind ≢ DisplayHelp) × (kind ≢ DisplayVersion)
