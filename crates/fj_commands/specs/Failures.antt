-- Why the exit status is 5: a call failed.
use Rattle.std.specs.Prelude.{◌-◌, ◌^◌, ◌<◌, ◌≤◌, ◌⊎◌, ⊤, Option, Some, None, Result, Err}
use Rattle.fj_streams.specs.Calls.{Calls, HasFailed, IsFine}
use Rattle.fj_streams.specs.Tells.{Seen}
use Rattle.fj_check.specs.Checks.{FailsToRead}
use Rattle.fj_replay.specs.declared.fault.ReplayFault.{ReplayFault}
use Rattle.fj_replay.specs.declared.fault.ReplayFault.TheVariants.{Read, Write}

-- a call of this stream has failed, or after 2^64 - 1 of them the caller had to call again; of a stream whose calls are not known nothing
-- is said
abbrev pub HasBroken : Option Calls → Option Calls → Type 0
HasBroken None new = ⊤
HasBroken (Some x) None = ⊥
HasBroken (Some x) (Some y) = (0 < y.failed) ⊎ (2 ^ 64 - 1 ≤ y.again)

-- a read failed, or a write or a flush
abbrev pub FailsToCopy : Seen → Option Calls → Option Calls → Type 0
FailsToCopy r old new = FailsToRead r ⊎ HasBroken old new

-- a script ended by a failed call
abbrev pub IsBroken : {A : Type 0} → Result A ReplayFault → Type 0
IsBroken (Err Read) = ⊤
IsBroken (Err Write) = ⊤
IsBroken _ = ⊥

-- after a script that ended so the flush failed, or it was a failed call that ended the script
abbrev pub FailsToFlush : {A : Type 0} → Result A ReplayFault → Option Calls → Option Calls → Type 0
FailsToFlush ended old new = HasFailed old new ⊎ (IsBroken ended × IsFine old new)
