-- Why the exit status is 5, or 2.
use Rattle.std.specs.Prelude.{◌≡◌, ◌⊎◌, true, List, Option, is_some}
use Rattle.clap.specs.Words.{Text}
use Rattle.fj_streams.specs.Calls.{Calls, HasFailed}
use Rattle.fj_streams.specs.Tells.{Seen}
use Rattle.fj_arguments.specs.declared.command_line.Subcommand.{Subcommand}
use Rattle.fj_arguments.specs.declared.command_line.Subcommand.TheVariants.{Compute, Record, View}
use Rattle.fj_arguments.specs.Commands.{Asks, AsksNothing, IsAtFault}
use Rattle.fj_commands.specs.Failures.{FailsToCopy}
use Rattle.fj_commands.specs.Statuses.{HasNotes, IsUnviewed}
use Rattle.fj_cli.specs.Answers.{HasTooManyBlocks}

-- ---- 5: a call failed

-- an option names a file, of whose calls nothing is known
abbrev pub NamesFile : Subcommand → Type 0
NamesFile (Record job notes) = is_some notes ≡ true
NamesFile (View o) = HasNotes o
NamesFile _ = ⊥

-- a call failed of the reader, of the writer or of standard error, or an option names a file
abbrev pub FailsProgram : List Text → Seen → Option Calls → Option Calls → Option Calls → Option Calls → Type 0
FailsProgram words r out out_after err err_after =
    FailsToCopy r out out_after ⊎ (HasFailed err err_after ⊎ ((asked : Subcommand) × Asks words asked × NamesFile asked))

-- ---- 2: a usage error

-- the job has too many blocks, there is no such view, or a window of what is no picture
abbrev pub IsTooMuch : Subcommand → Type 0
IsTooMuch (Compute job) = HasTooManyBlocks job
IsTooMuch (Record job notes) = HasTooManyBlocks job
IsTooMuch (View o) = IsUnviewed o
IsTooMuch _ = ⊥

-- the arguments have a usage error, or ask for no command, or for too much
abbrev pub IsMisused : List Text → Type 0
IsMisused words = IsAtFault words ⊎ (AsksNothing words ⊎ ((asked : Subcommand) × Asks words asked × IsTooMuch asked))
