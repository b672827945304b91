-- What a fault says of the calls of the reader and of the writer.
pub use Rattle.fj_streams.specs.Tells.{Seen, seen}
use Rattle.std.specs.Prelude.{ℕ, ◌-◌, ◌^◌, ◌≤◌, ◌⊎◌, List, Option, length}
use Rattle.fj_streams.specs.Calls.{Calls, HasFailed, IsFine}
use Rattle.fj_streams.specs.declared.read_loop.TheConstants.{CHUNK}
use Rattle.fj_streams.specs.Cuts.{lines}
use Rattle.fj_replay.specs.declared.fault.ReplayFault.{ReplayFault}
use Rattle.fj_replay.specs.declared.fault.ReplayFault.TheVariants.{Line, Limits, Memory, Read, Write}
use Rattle.fj_replay.specs.declared.script_stage.ScriptStage.{ScriptStage}
use Rattle.fj_replay.specs.declared.script_stage.ScriptStage.TheVariants.{Start, Old}
use Rattle.fj_replay.specs.Faults.{EndsFrom}

-- what a fault says of the reader, of which these bytes were read, and of the writer: the reader failed only at `Read`, the writer only
-- at `Write`. More lines than 64 bits count are `Read` too.
abbrev pub FaultTells : ReplayFault → List ℕ → Option Calls → Option Calls → Option Calls → Option Calls → Type 0
FaultTells (Line n) b read now written after = IsFine read now × IsFine written after
FaultTells Limits b read now written after = IsFine read now × IsFine written after
FaultTells Memory b read now written after = IsFine read now × IsFine written after
FaultTells Read b read now written after = (HasFailed read now ⊎ (2 ^ 64 - 1 - CHUNK ≤ length (lines b))) × IsFine written after
FaultTells Write b read now written after = IsFine read now × HasFailed written after

-- some bytes were read, and the work on them ended by this fault, which also says which calls failed
abbrev pub StopsFrom : ScriptStage → Seen → Seen → ReplayFault → Type 0
StopsFrom first r w fault =
    (b : List ℕ) × EndsFrom first fault b r.bytes r.bytes_after w.bytes w.bytes_after × FaultTells fault b r.calls r.calls_after w.calls w.calls_after

-- the same of a replay
abbrev pub Stops : Seen → Seen → ReplayFault → Type 0
Stops r w fault = StopsFrom Start r w fault

-- and of an upgrade
abbrev pub StopsUpgrade : Seen → Seen → ReplayFault → Type 0
StopsUpgrade r w fault = StopsFrom Old r w fault
