-- What a fault says of the calls of the reader and of the writer.
use Rattle.std.specs.Prelude.{ℕ, ◌-◌, ◌^◌, ◌≤◌, ◌⊎◌, List, Option, length}
use Rattle.fj_streams.specs.Calls.{Calls, HasFailed, IsFine}
use Rattle.fj_streams.specs.declared.fault.FilterFault.{FilterFault}
use Rattle.fj_streams.specs.declared.fault.FilterFault.TheVariants.{Stop, Line, Memory, Read, Write}
use Rattle.fj_streams.specs.declared.fault.LineStop.{LineStop}
use Rattle.fj_streams.specs.declared.fault.LineStop.TheVariants as fails
use Rattle.fj_streams.specs.declared.read_loop.TheConstants.{CHUNK}
use Rattle.fj_streams.specs.Cuts.{lines}
use Rattle.fj_streams.specs.Rules.{Rules}
use Rattle.fj_streams.specs.Faults.{EndsFrom}

-- what contracts see of a reader or a writer: its bytes and its calls, before and after
pub record Seen : Type 0 where
  pub bytes : Option (List ℕ)
  pub bytes_after : Option (List ℕ)
  pub calls : Option Calls
  pub calls_after : Option Calls

-- the same by functions for bytes and calls
abbrev pub seen : {T : Type 0} → (T → Option (List ℕ)) → (T → Option Calls) → T → T → Seen
seen bytes calls old new = record { bytes = bytes old; bytes_after = bytes new; calls = calls old; calls_after = calls new }

module _ {S : Type 0} where
  -- the fault of a line, with the number of the line
  abbrev pub fault_at : ℕ → LineStop S → FilterFault S
  fault_at n (fails.Stop stop) = Stop n stop
  fault_at n fails.Memory = Memory
  fault_at n fails.Write = Write

  -- what the fault of a line says of the writer: it failed only at `Write`
  abbrev pub WriterTells : LineStop S → Option Calls → Option Calls → Type 0
  WriterTells (fails.Stop stop) old new = IsFine old new
  WriterTells fails.Memory old new = IsFine old new
  WriterTells fails.Write old new = HasFailed old new

  -- what a fault says of the reader, of which these bytes were read, and of the writer: the reader failed only at `Read`, the writer only
  -- at `Write`. More lines than 64 bits count are `Read` too.
  abbrev pub FaultTells : FilterFault S → List ℕ → Option Calls → Option Calls → Option Calls → Option Calls → Type 0
  FaultTells (Stop n stop) b read now written after = IsFine read now × IsFine written after
  FaultTells (Line n) b read now written after = IsFine read now × IsFine written after
  FaultTells Memory b read now written after = IsFine read now × IsFine written after
  FaultTells Read b read now written after = (HasFailed read now ⊎ (2 ^ 64 - 1 - CHUNK ≤ length (lines b))) × IsFine written after
  FaultTells Write b read now written after = IsFine read now × HasFailed written after

-- some bytes were read, and the work on them ended by this fault, which also says which calls failed
abbrev pub StopsFrom : {A S : Type 0} → Rules A S → A → Seen → Seen → FilterFault S → Type 0
StopsFrom rules first r w fault =
    (b : List ℕ) × EndsFrom rules first fault b r.bytes r.bytes_after w.bytes w.bytes_after × FaultTells fault b r.calls r.calls_after w.calls w.calls_after
