-- What is known after a text was to be written.
use Rattle.std.specs.Prelude.{ℕ, List, Option, Result, MatchResult}
use Rattle.std.specs.Io.KnownBytes.{Appends}
use Rattle.fj_streams.specs.Beginnings.{AppendsSome}
use Rattle.fj_streams.specs.Calls.{Calls, HasFailed, IsFine}
use Rattle.fj_record.specs.declared.fault.WriteFault.{WriteFault}
use Rattle.fj_record.specs.declared.fault.WriteFault.TheVariants.{Memory, Write}

-- what a fault says of the writer: it failed only at `Write`
abbrev pub FaultTells : WriteFault → Option Calls → Option Calls → Type 0
FaultTells Memory calls calls_after = IsFine calls calls_after
FaultTells Write calls calls_after = HasFailed calls calls_after

-- at Ok the text was written, else a beginning of it, for this fault
abbrev pub Writes : {A : Type 0} → Result A WriteFault → Option (List ℕ) → Option (List ℕ) → Option Calls → Option Calls → List ℕ → Type 0
Writes result bytes bytes_after calls calls_after text =
    MatchResult result (λ _. Appends bytes bytes_after text × IsFine calls calls_after) (λ fault. AppendsSome bytes bytes_after text × FaultTells fault calls calls_after)
