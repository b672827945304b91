-- The meaning of exit statuses, of a job and of the program.
use Rattle.std.specs.Prelude.{ℕ, ◌≡◌, ◌≢◌, ◌⊎◌, List, Option}
use Rattle.clap.specs.Words.{Text}
use Rattle.std.specs.declared.io.ErrorKind.{ErrorKind}
use Rattle.std.specs.declared.io.ErrorKind.TheVariants.{InvalidData}
use Rattle.std.specs.Io.KnownBytes.{Appends}
use Rattle.fj_check.specs.Histories.{IsHistory}
use Rattle.fj_replay.specs.Faults.{Replays, Upgrades}
use Rattle.fj_arguments.specs.declared.command_line.Subcommand.{Subcommand}
use Rattle.fj_arguments.specs.declared.command_line.Subcommand.TheVariants.{Replay, Upgrade, Compute, Record, Check, Trace, Test, Explain, View}
use Rattle.fj_arguments.specs.declared.command_line.Job.{Job}
use Rattle.fj_arguments.specs.declared.command_line.Job.TheVariants.{Sum, Min, Find, Tree}
use Rattle.fj_arguments.specs.Commands.{Asks, AsksNothing, AsksToShow, IsAtFault, replay_words, upgrade_words}
use Rattle.fj_commands.specs.Answers.{number_line}
use Rattle.fj_commands.specs.Statuses.{EndsCheck, EndsExplain, EndsReplay, EndsTest, EndsTrace, EndsUpgrade, EndsView, IsOfFailure}
use Rattle.fj_cli.specs.Answers.{EndsRange, EndsTree, HasTooManyBlocks, hit_line, hit_of, least_line, least_of, sum_of}

-- the exit status where the words could not be had: 2 where one is no text, 4 for any other error
abbrev pub StatusOfNoWords : ErrorKind → ℕ → Type 0
StatusOfNoWords kind status = (kind ≡ InvalidData → status ≡ 2) × (kind ≢ InvalidData → status ≡ 4)

-- status 0 means, for the arguments of a replay, that a script was replayed; for those of an upgrade, that one was written as version 2
pub record EndsKnown (words : List Text) (status : ℕ) (before ahead start now : Option (List ℕ)) : Type 0 where
  pub replayed : words ≡ replay_words → status ≡ 0 → Replays before ahead start now
  pub upgraded : words ≡ upgrade_words → status ≡ 0 → Upgrades before ahead start now

-- this job ended with this exit status; one over a range reads nothing
abbrev pub EndsCompute : Job → ℕ → Option (List ℕ) → Option (List ℕ) → Option (List ℕ) → Option (List ℕ) → Type 0
EndsCompute (Sum o) status before ahead start now = (ahead ≡ before) × EndsRange o status (number_line (sum_of o)) start now
EndsCompute (Min o f) status before ahead start now = (ahead ≡ before) × EndsRange o status (least_line (least_of o f)) start now
EndsCompute (Find o f want) status before ahead start now = (ahead ≡ before) × EndsRange o status (hit_line (hit_of o f want)) start now
EndsCompute (Tree workers) status before ahead start now = EndsTree status before ahead start now

-- what was written is a history
abbrev pub WritesHistory : Option (List ℕ) → Option (List ℕ) → Type 0
WritesHistory start now = (text : List ℕ) × (n : ℕ) × IsHistory text n × Appends start now text

-- a job was run, with this exit status: at 0 a history was written
abbrev pub EndsRun : ℕ → Option (List ℕ) → Option (List ℕ) → Type 0
EndsRun status start now = ((status ≡ 0) × WritesHistory start now) ⊎ IsOfFailure status

-- a recorded job ended with this exit status: 2 only for too many blocks
abbrev pub EndsRecord : Job → ℕ → Option (List ℕ) → Option (List ℕ) → Type 0
EndsRecord job status start now = EndsRun status start now ⊎ ((status ≡ 2) × HasTooManyBlocks job)

-- this command ended with this exit status
abbrev pub EndsCommand : Subcommand → ℕ → Option (List ℕ) → Option (List ℕ) → Option (List ℕ) → Option (List ℕ) → Type 0
EndsCommand Replay status before ahead start now = EndsReplay status before ahead start now
EndsCommand Upgrade status before ahead start now = EndsUpgrade status before ahead start now
EndsCommand (Compute job) status before ahead start now = EndsCompute job status before ahead start now
EndsCommand (Record job notes) status before ahead start now = EndsRecord job status start now
EndsCommand Check status before ahead start now = EndsCheck status before ahead start now
EndsCommand Trace status before ahead start now = EndsTrace status before ahead start now
EndsCommand Test status before ahead start now = EndsTest status start now
EndsCommand Explain status before ahead start now = EndsExplain status
EndsCommand (View o) status before ahead start now = EndsView o status before ahead start now

-- no command was run, and nothing read: at 0 the words ask for help or the version, at 2 they have a usage error, or ask for no command;
-- at 2 and 4 nothing was written
pub record EndsUnrun (words : List Text) (status : ℕ) (before ahead start now : Option (List ℕ)) : Type 0 where
  pub known : (status ≡ 0) ⊎ ((status ≡ 2) ⊎ ((status ≡ 4) ⊎ (status ≡ 5)))
  pub unread : ahead ≡ before
  pub shown : status ≡ 0 → AsksToShow words
  pub fault : status ≡ 2 → IsAtFault words ⊎ AsksNothing words
  pub silent : (status ≡ 2) ⊎ (status ≡ 4) → now ≡ start

-- how the program ends: as the command that the words ask for, or without one
abbrev pub EndsProgram : List Text → ℕ → Option (List ℕ) → Option (List ℕ) → Option (List ℕ) → Option (List ℕ) → Type 0
EndsProgram words status before ahead start now =
    ((asked : Subcommand) × Asks words asked × EndsCommand asked status before ahead start now) ⊎ EndsUnrun words status before ahead start now
