-- The meaning of the exit statuses of commands for scripts and histories.
use Rattle.std.specs.Prelude.{ℕ, ◌≡◌, ◌≢◌, ◌⊎◌, ◌++◌, List, Option, Some, None, Result, MatchResult, codes}
use Rattle.fj_replay.specs.declared.fault.ReplayFault.{ReplayFault}
use Rattle.fj_replay.specs.declared.fault.ReplayFault.TheVariants.{Line, Limits, Memory, Read, Write}
use Rattle.std.specs.Io.KnownBytes.{Appends, Consumes}
use Rattle.fj_streams.specs.declared.fault.FilterFault.{FilterFault}
use Rattle.fj_streams.specs.Faults as filter
use Rattle.fj_check.specs.declared.fault.CheckFault.{CheckFault}
use Rattle.fj_check.specs.declared.fault.CheckFault.TheVariants as check
use Rattle.fj_check.specs.Checks.{IsChecked, IsReadAs, IsBarred, IsFaulty, IsOpenedWrong}
use Rattle.fj_replay.specs.declared.script_stop.ScriptStop.{ScriptStop}
use Rattle.fj_replay.specs.Stops.{replay_fault}
use Rattle.fj_record.specs.declared.trace_stage.TraceStage.TheVariants as trace
use Rattle.fj_record.specs.Traces.{trace_rules}
use Rattle.fj_record.specs.Traced.{Traces}
use Rattle.fj_rules.specs.Pasts.{Past}
use Rattle.fj_views.specs.Tables.{table_text}
use Rattle.fj_arguments.specs.declared.options.ViewName.TheVariants as view
use Rattle.fj_arguments.specs.declared.options.ViewOptions.{ViewOptions}
use Rattle.fj_commands.specs.Answers.{number_line}
use Rattle.fj_replay.specs.declared.script_stage.ScriptStage.{ScriptStage}
use Rattle.fj_replay.specs.declared.script_stage.ScriptStage.TheVariants.{Start, Old}
use Rattle.fj_replay.specs.Faults.{Begins, BeginsUpgrade, EndsFrom, Replays, Upgrades}

-- the exit status of a fault: 3 for the input, 4 for memory, 5 for a read or a write
abbrev pub status_of : ReplayFault → ℕ
status_of (Line n) = 3
status_of Limits = 3
status_of Memory = 4
status_of Read = 5
status_of Write = 5

-- a script ended so, with this exit status: 5 also where what was written could not be flushed
abbrev pub IsEndOf : {A : Type 0} → Result A ReplayFault → ℕ → Type 0
IsEndOf ended status = (status ≡ 5) ⊎ MatchResult ended (λ _. status ≡ 0) (λ fault. status ≡ status_of fault)

-- a script that began at this stage ended by a fault of this status
abbrev pub EndsBy : ScriptStage → ℕ → Option (List ℕ) → Option (List ℕ) → Option (List ℕ) → Option (List ℕ) → Type 0
EndsBy first status before ahead start now =
    (fault : ReplayFault) × (b : List ℕ) × (status ≡ status_of fault) × EndsFrom first fault b before ahead start now

-- a script that began at this stage ended with this exit status
pub record EndsScript (first : ScriptStage) (status : ℕ) (Done Begun : Type 0) (before ahead start now : Option (List ℕ)) : Type 0 where
  pub known : (status ≡ 0) ⊎ ((status ≡ 3) ⊎ ((status ≡ 4) ⊎ (status ≡ 5)))
  pub done : status ≡ 0 → Done
  pub fault : status ≡ 3 → EndsBy first 3 before ahead start now
  pub memory : status ≡ 4 → EndsBy first 4 before ahead start now
  -- whatever the status
  pub begun : Begun

-- a replay ended with this exit status
abbrev pub EndsReplay : ℕ → Option (List ℕ) → Option (List ℕ) → Option (List ℕ) → Option (List ℕ) → Type 0
EndsReplay status before ahead start now =
    EndsScript Start status (Replays before ahead start now) (Begins before ahead start now) before ahead start now

-- an upgrade ended with this exit status
abbrev pub EndsUpgrade : ℕ → Option (List ℕ) → Option (List ℕ) → Option (List ℕ) → Option (List ℕ) → Type 0
EndsUpgrade status before ahead start now =
    EndsScript Old status (Upgrades before ahead start now) (BeginsUpgrade before ahead start now) before ahead start now

-- a check that ended by this fault has this exit status; what is not an objection writes nothing
abbrev pub IsEndOfCheck : CheckFault → ℕ → Option (List ℕ) → Option (List ℕ) → Type 0
IsEndOfCheck (check.Objection n why) status start now = (status ≡ 1) ⊎ ((status ≡ 4) ⊎ (status ≡ 5))
IsEndOfCheck (check.Line n) status start now = (status ≡ 3) × (now ≡ start)
IsEndOfCheck check.Limits status start now = (status ≡ 3) × (now ≡ start)
IsEndOfCheck check.Memory status start now = (status ≡ 4) × (now ≡ start)
IsEndOfCheck check.Read status start now = (status ≡ 5) × (now ≡ start)

-- a command that reads a history ended with this exit status: 0 where the whole input is one, and this was done with its number of events;
-- 1 where some line is that of an entry that may not come, as was written; 3 where it is at fault
pub record EndsHistory (Done : ℕ → Type 0) (status : ℕ) (before ahead start now : Option (List ℕ)) : Type 0 where
  pub known : (status ≡ 0) ⊎ ((status ≡ 1) ⊎ ((status ≡ 3) ⊎ ((status ≡ 4) ⊎ (status ≡ 5))))
  pub good : status ≡ 0 → (n : ℕ) × IsChecked n before ahead × Done n
  pub barred : status ≡ 1 → (n : ℕ) × (b : List ℕ) × Consumes before ahead b × IsBarred n b
  pub faulty : status ≡ 3 → (b : List ℕ) × Consumes before ahead b × (((n : ℕ) × IsFaulty n b ahead) ⊎ IsOpenedWrong b) × (now ≡ start)

-- a check ended with this exit status: at 0 the number of events was written
abbrev pub EndsCheck : ℕ → Option (List ℕ) → Option (List ℕ) → Option (List ℕ) → Option (List ℕ) → Type 0
EndsCheck status before ahead start now = EndsHistory (λ n. Appends start now (codes "ok " ++ number_line n)) status before ahead start now

-- a text was written, whatever it says
abbrev pub IsWritten : Option (List ℕ) → Option (List ℕ) → Type 0
IsWritten start now = (text : List ℕ) × Appends start now text

-- they are not all events
abbrev pub HasWindow : ViewOptions → Type 0
HasWindow o = (o.from ≢ 1) ⊎ (o.to ≢ 4294967295)

-- there is no view of this name, or a window of one that is no picture
abbrev pub IsUnviewed : ViewOptions → Type 0
IsUnviewed o = (o.name ≡ None) ⊎ ((o.name ≢ Some view.Svg) × HasWindow o)

-- the whole input is a history, and the table of its tasks was written
abbrev pub IsTabled : Option (List ℕ) → Option (List ℕ) → Option (List ℕ) → Option (List ℕ) → Type 0
IsTabled before ahead start now = (past : Past) × IsReadAs past before ahead × Appends start now (table_text past.events)

-- the exit status of a command that failed
abbrev pub IsOfFailure : ℕ → Type 0
IsOfFailure status = (status ≡ 3) ⊎ ((status ≡ 4) ⊎ (status ≡ 5))

-- a file of notes is named
abbrev pub HasNotes : ViewOptions → Type 0
HasNotes o = o.notes ≢ None

-- nothing was read or written: there is no such view, or the file of notes that is named has none
abbrev pub IsUnread : ViewOptions → ℕ → Type 0
IsUnread o status = ((status ≡ 2) × IsUnviewed o) ⊎ (IsOfFailure status × HasNotes o)

-- a view ended with this exit status
abbrev pub EndsAnyView : ViewOptions → ℕ → Option (List ℕ) → Option (List ℕ) → Option (List ℕ) → Option (List ℕ) → Type 0
EndsAnyView o status before ahead start now =
    (IsUnread o status × (ahead ≡ before) × (now ≡ start)) ⊎ EndsHistory (λ n. IsWritten start now) status before ahead start now

-- and at 0 the table, if that was asked for, is that of the history
abbrev pub EndsView : ViewOptions → ℕ → Option (List ℕ) → Option (List ℕ) → Option (List ℕ) → Option (List ℕ) → Type 0
EndsView o status before ahead start now =
    EndsAnyView o status before ahead start now × (o.name ≡ Some view.Tasks → status ≡ 0 → IsTabled before ahead start now)

-- a trace ended by a fault of this status
abbrev pub EndsTraceBy : ℕ → Option (List ℕ) → Option (List ℕ) → Option (List ℕ) → Option (List ℕ) → Type 0
EndsTraceBy status before ahead start now =
    (why : FilterFault ScriptStop) × (b : List ℕ) × (status ≡ status_of (replay_fault why)) × filter.EndsFrom trace_rules trace.Start why b before ahead start now

-- a trace ended with this exit status
pub record EndsTrace (status : ℕ) (before ahead start now : Option (List ℕ)) : Type 0 where
  pub known : (status ≡ 0) ⊎ ((status ≡ 3) ⊎ ((status ≡ 4) ⊎ (status ≡ 5)))
  pub done : status ≡ 0 → Traces before ahead start now
  pub fault : status ≡ 3 → EndsTraceBy 3 before ahead start now
  pub memory : status ≡ 4 → EndsTraceBy 4 before ahead start now

-- a test of a script ended with this exit status: at 0 nothing was written
abbrev pub EndsTest : ℕ → Option (List ℕ) → Option (List ℕ) → Type 0
EndsTest status start now = ((status ≡ 0) × (now ≡ start)) ⊎ ((status ≡ 1) ⊎ IsOfFailure status)

-- a script was explained with this exit status
abbrev pub EndsExplain : ℕ → Type 0
EndsExplain status = (status ≡ 0) ⊎ IsOfFailure status
