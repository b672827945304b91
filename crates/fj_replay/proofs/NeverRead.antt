-- A reader of bytes in memory does not fail.
use Rattle.std.specs.Io.KnownBytes.{Consumes}
use Rattle.std.proofs.Common.{ℕ, ◌≢◌, subst, ◌+◌, ◌^◌, ◌≤◌, List, length, Option, Some}
use Rattle.fj_streams.specs.Calls.{Calls}
use Rattle.fj_streams.proofs.CallsTold.{never_failed}
use Rattle.fj_replay.specs.declared.fault.ReplayFault.{ReplayFault}
use Rattle.fj_replay.specs.declared.fault.ReplayFault.TheVariants.{Read}
use Rattle.fj_replay.specs.Tells.{FaultTells}

-- so nothing that is done on bytes in memory ends at `Read`
pub never_read : (fault : ReplayFault) (script rest b : List ℕ) (first again : ℕ) (written after : Option Calls) → first + length script ≤ 2 ^ 63 → again + length rest ≤ 2 ^ 63 → Consumes (Some script) (Some rest) b → FaultTells fault b (Some (record { failed = 0; again = first })) (Some (record { failed = 0; again = again })) written after → fault ≢ Read
never_read fault script rest b first again written after short few read told is =
    let told' = subst (λ f. FaultTells f b (Some (record { failed = 0; again = first })) (Some (record { failed = 0; again = again })) written after) is told in
    never_failed script rest b first again short few read told'.0
