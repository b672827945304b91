-- Which calls failed.
use Rattle.std.proofs.Common.{ℕ, ◌⊎◌, ⊎_elim, inl, inr, arith, sym, subst, List, Option, Some, None}
use Rattle.std.specs.Prelude.{Result, Ok, Err, OnOk, OnErr, IfErr}
use Rattle.std.specs.Io.KnownBytes.{Consumes}
use Rattle.fj_streams.specs.Calls.{Calls, HasFailed, IsFine}
use Rattle.fj_streams.proofs.CallsMade.{fine_failed}
use Rattle.fj_streams.specs.Tells.{Seen}
use Rattle.fj_streams.specs.Tells as filter_tells
use Rattle.fj_streams.specs.declared.fault.FilterFault.{FilterFault}
use Rattle.fj_streams.specs.declared.fault.FilterFault.TheVariants as filter
use Rattle.fj_check.specs.Checks.{FailsToRead}
use Rattle.fj_replay.specs.declared.fault.ReplayFault.{ReplayFault}
use Rattle.fj_replay.specs.declared.fault.ReplayFault.TheVariants.{Line, Limits, Memory, Read, Write}
use Rattle.fj_replay.specs.declared.script_stop.ScriptStop.{ScriptStop}
use Rattle.fj_replay.specs.declared.script_stop.ScriptStop.TheVariants as stop
use Rattle.fj_replay.specs.Stops.{replay_fault}
use Rattle.fj_replay.specs.declared.script_stage.ScriptStage.{ScriptStage}
use Rattle.fj_replay.specs.Tells.{FaultTells, StopsFrom}
use Rattle.fj_record.specs.Traced.{StopsTrace}
use Rattle.fj_commands.specs.Failures.{FailsToCopy, FailsToFlush, HasBroken}

-- what holds, at an error
pub at_err : {T E P : Type 0} (r : Result T E) → P → OnErr r P
at_err (Ok x) p = tt
at_err (Err e) p = p

-- what holds at an error
pub on_err : {T E P Q : Type 0} (r : Result T E) → (P → Q) → OnErr r P → OnErr r Q
on_err (Ok x) f p = tt
on_err (Err e) f p = f p

-- one call failed
pub failed_broken : (old new : Option Calls) → HasFailed old new → HasBroken old new
failed_broken None new failed = tt
failed_broken (Some x) None failed = absurd failed
failed_broken (Some x) (Some y) failed = ⊎_elim (λ one. inl (omega (arith, one))) (λ many. inr (omega (arith, many))) failed

-- and then none
pub broken_fine : (a b c : Option Calls) → HasFailed a b → IsFine b c → HasBroken a c
broken_fine None b c failed fine = tt
broken_fine (Some x) None c failed fine = absurd failed
broken_fine (Some x) (Some y) None failed fine = absurd fine
broken_fine (Some x) (Some y) (Some z) failed fine =
    let same = fine.0 in
    let more = fine.1 in
    ⊎_elim (λ one. inl (omega (arith, one, same))) (λ many. inr (omega (arith, many, more))) failed

-- or another one
pub broken_twice : (a b c : Option Calls) → HasFailed a b → HasFailed b c → HasBroken a c
broken_twice None b c first second = tt
broken_twice (Some x) None c first second = absurd first
broken_twice (Some x) (Some y) None first second = absurd second
broken_twice (Some x) (Some y) (Some z) first second = ⊎_elim (λ one. inl (omega (arith, one))) (λ many. inr (omega (arith, many))) second

-- ---- a script, and then a flush

-- what a trace says of the calls, as a replay does
pub trace_tells : (why : FilterFault ScriptStop) (b : List ℕ) (read now written after : Option Calls) → filter_tells.FaultTells why b read now written after
    → FaultTells (replay_fault why) b read now written after
trace_tells (filter.Stop n stop.Faulty) b read now written after tells = tells
trace_tells (filter.Stop n stop.Limits) b read now written after tells = tells
trace_tells (filter.Line n) b read now written after tells = tells
trace_tells filter.Memory b read now written after tells = tells
trace_tells filter.Read b read now written after tells = tells
trace_tells filter.Write b read now written after tells = tells

module _ (r w : Seen) (flushed : Option Calls) where
  fine_flush : IsFine w.calls w.calls_after → HasFailed w.calls_after flushed → HasBroken w.calls flushed
  fine_flush fine failed = failed_broken w.calls flushed (fine_failed w.calls w.calls_after flushed fine failed)

  at_end : {A : Type 0} (x : A) → IsFine w.calls w.calls_after → FailsToFlush {A = A} (Ok x) w.calls_after flushed → FailsToCopy r w.calls flushed
  at_end x fine ends = inr (⊎_elim (λ failed. fine_flush fine failed) (λ broken. absurd broken.0) ends)

  at_fault : (A : Type 0) (fault : ReplayFault) (b : List ℕ) → Consumes r.bytes r.bytes_after b → FaultTells fault b r.calls r.calls_after w.calls w.calls_after
      → FailsToFlush {A = A} (Err fault) w.calls_after flushed → FailsToCopy r w.calls flushed
  at_fault A (Line n) b read tells ends = inr (⊎_elim (λ failed. fine_flush tells.1 failed) (λ broken. absurd broken.0) ends)
  at_fault A Limits b read tells ends = inr (⊎_elim (λ failed. fine_flush tells.1 failed) (λ broken. absurd broken.0) ends)
  at_fault A Memory b read tells ends = inr (⊎_elim (λ failed. fine_flush tells.1 failed) (λ broken. absurd broken.0) ends)
  at_fault A Read b read tells ends = inl (⊎_elim (λ failed. inl failed) (λ many. inr (b, read, many)) tells.0)
  at_fault A Write b read tells ends =
      inr (⊎_elim (λ failed. broken_twice w.calls w.calls_after flushed tells.1 failed) (λ broken. broken_fine w.calls w.calls_after flushed tells.1 broken.1) ends)

  pub script_failed : {A : Type 0} (first : ScriptStage) (ended : Result A ReplayFault) → OnOk ended (IsFine r.calls r.calls_after × IsFine w.calls w.calls_after)
      → IfErr ended (StopsFrom first r w) → FailsToFlush ended w.calls_after flushed → FailsToCopy r w.calls flushed
  script_failed first (Ok x) fine stops ends = at_end x fine.1 ends
  script_failed {A = A} first (Err fault) fine stops ends = at_fault A fault stops.0 stops.1.read stops.2 ends

  pub trace_failed : {A : Type 0} (ended : Result A ReplayFault) → OnOk ended (IsFine r.calls r.calls_after × IsFine w.calls w.calls_after)
      → IfErr ended (StopsTrace r w) → FailsToFlush ended w.calls_after flushed → FailsToCopy r w.calls flushed
  trace_failed (Ok x) fine stops ends = at_end x fine.1 ends
  trace_failed {A = A} (Err fault) fine stops ends =
      let b = stops.2.0 in
      let tells = trace_tells stops.0 b r.calls r.calls_after w.calls w.calls_after stops.2.2 in
      at_fault A fault b stops.2.1.read (subst (λ (f : ReplayFault). FaultTells f b r.calls r.calls_after w.calls w.calls_after) (sym stops.1) tells) ends

-- ---- other commands

module _ (r : Seen) (written after : Option Calls) where
  pub copy_failed : FailsToRead r ⊎ HasFailed written after → FailsToCopy r written after
  copy_failed failed = ⊎_elim (λ read. inl read) (λ write. inr (failed_broken written after write)) failed

  pub either_call : HasFailed r.calls r.calls_after ⊎ HasFailed written after → FailsToCopy r written after
  either_call failed = copy_failed (⊎_elim (λ read. inl (inl read)) (λ write. inr write) failed)
