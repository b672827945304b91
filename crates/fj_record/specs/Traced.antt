-- What the result of a trace says of the bytes that were read, and what it writes.
use Rattle.std.specs.Prelude.{ℕ, ◌≡◌, ◌≤◌, ◌^◌, List, Option, Some}
use Rattle.fj_streams.specs.declared.fault.FilterFault.{FilterFault}
use Rattle.fj_streams.specs.Cuts.{lines}
use Rattle.fj_streams.specs.Faults.{Finishes}
use Rattle.fj_streams.specs.Rules.{state_from}
use Rattle.fj_streams.specs.Tells.{Seen, StopsFrom}
use Rattle.fj_rules.specs.Tasks.{accepted}
use Rattle.fj_check.specs.Histories.{IsHistory}
use Rattle.fj_replay.specs.declared.fault.ReplayFault.{ReplayFault}
use Rattle.fj_replay.specs.declared.script_stop.ScriptStop.{ScriptStop}
use Rattle.fj_replay.specs.Plays.{Play}
use Rattle.fj_replay.specs.Stops.{replay_fault}
use Rattle.fj_record.specs.declared.trace_stage.TraceStage.{TraceStage}
use Rattle.fj_record.specs.declared.trace_stage.TraceStage.TheVariants.{Start, Going}
use Rattle.fj_record.specs.Traces.{trace_rules, trace_text}

-- the whole input was read as a script, and what is written at its lines was written
abbrev pub Traces : Option (List ℕ) → Option (List ℕ) → Option (List ℕ) → Option (List ℕ) → Type 0
Traces before ahead start now = (last : TraceStage) × Finishes trace_rules Start last before ahead start now

-- it is the fault of the filter with these rules
abbrev pub StopsTrace : Seen → Seen → ReplayFault → Type 0
StopsTrace r w fault = (why : FilterFault ScriptStop) × (fault ≡ replay_fault why) × StopsFrom trace_rules Start r w why

-- what is written at lines that lead behind the heading is a history, if each task's number has 32 bits
abbrev pub PrintsHistories : Type 0
PrintsHistories =
    (b : List ℕ) (play : Play) → state_from trace_rules Start (lines b) ≡ Some (Going play) → accepted play.past.events ≤ 2 ^ 32
    → (n : ℕ) × IsHistory (trace_text b) n
