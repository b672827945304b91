-- How a trace ended, once what was written of it was flushed.
use Rattle.std.proofs.Common.{ℕ, ◌≡◌, ◌⊎◌, ◌∙◌, ⊎_elim, inl, inr, sym, subst, arith, List, Option}
use Rattle.std.specs.Prelude.{Result, Ok, Err, OnOk, IfErr, ◌<◌}
use Rattle.std.specs.Io.KnownBytes.{Keeps}
use Rattle.fj_streams.proofs.Bytes.{appends_keeps}
use Rattle.fj_streams.specs.declared.fault.FilterFault.{FilterFault}
use Rattle.fj_streams.specs.declared.fault.FilterFault.TheVariants as filter
use Rattle.fj_streams.specs.Faults.{EndsFrom, FaultOf}
use Rattle.fj_streams.specs.Tells.{Seen}
use Rattle.fj_replay.specs.declared.fault.ReplayFault.{ReplayFault}
use Rattle.fj_replay.specs.declared.script_stop.ScriptStop.{ScriptStop}
use Rattle.fj_replay.specs.Stops.{replay_fault}
use Rattle.fj_record.specs.declared.trace_stage.TraceStage.TheVariants.{Start}
use Rattle.fj_record.specs.Traces.{trace_rules}
use Rattle.fj_record.specs.Traced.{StopsTrace, Traces}
use Rattle.fj_commands.specs.Statuses.{EndsTrace, EndsTraceBy, IsEndOf, status_of}
use Rattle.fj_commands.proofs.ScriptEnds.{IsOfScript, no_fault_is_well, of_fault}

module _ (before ahead start now flushed : Option (List ℕ)) (kept : Keeps now flushed) where
  -- ---- a flush leaves what was written

  traces_kept : Traces before ahead start now → Traces before ahead start flushed
  traces_kept t =
      let end = t.1.1 in (t.0, (t.1.0, record { read = end.read; whole = end.whole; input = end.input; written = appends_keeps start now flushed _ end.written kept }))

  fault_kept : (why : FilterFault ScriptStop) (b : List ℕ) → FaultOf trace_rules Start why b ahead start now → FaultOf trace_rules Start why b ahead start flushed
  fault_kept (filter.Stop n stop) b f = (f.0, appends_keeps start now flushed _ f.1 kept)
  fault_kept (filter.Line n) b f = (f.0, appends_keeps start now flushed _ f.1 kept)
  fault_kept filter.Memory b f = (f.0, appends_keeps start now flushed _ f.1 kept)
  fault_kept filter.Read b f = (f.0, appends_keeps start now flushed _ f.1 kept)
  fault_kept filter.Write b f = (f.0, appends_keeps start now flushed _ f.1 kept)

  -- ---- the exit status

  with_status : (why : FilterFault ScriptStop) (status wanted : ℕ) (b : List ℕ) → EndsFrom trace_rules Start why b before ahead start now → (status ≡ 5) ⊎ (status ≡ status_of (replay_fault why)) → status ≡ wanted → wanted < 5
      → EndsTraceBy wanted before ahead start flushed
  with_status why status wanted b ends is want less =
      ⊎_elim (λ five. absurd (omega (arith, five, want, less))) (λ own. (why, b, sym want ∙ own, record { read = ends.read; means = fault_kept why b ends.means })) is

  at_fault : (why : FilterFault ScriptStop) (status : ℕ) (b : List ℕ) → EndsFrom trace_rules Start why b before ahead start now → (status ≡ 5) ⊎ (status ≡ status_of (replay_fault why)) → EndsTrace status before ahead start flushed
  at_fault why status b ends is = record {
    known = ⊎_elim (λ five. inr (inr (inr five))) (λ own. subst IsOfScript (sym own) (of_fault (replay_fault why))) is;
    done = λ zero. ⊎_elim (λ five. absurd (omega (arith, five, zero))) (λ own. absurd (no_fault_is_well (replay_fault why) (sym zero ∙ own))) is;
    fault = λ three. with_status why status 3 b ends is three (omega arith);
    memory = λ four. with_status why status 4 b ends is four (omega arith);
  }

  at_end : (status : ℕ) → Traces before ahead start now → (status ≡ 5) ⊎ (status ≡ 0) → EndsTrace status before ahead start flushed
  at_end status done is = record {
    known = ⊎_elim (λ five. inr (inr (inr five))) (λ zero. inl zero) is;
    done = λ zero. traces_kept done;
    fault = λ three. ⊎_elim (λ five. absurd (omega (arith, five, three))) (λ zero. absurd (omega (arith, zero, three))) is;
    memory = λ four. ⊎_elim (λ five. absurd (omega (arith, five, four))) (λ zero. absurd (omega (arith, zero, four))) is;
  }

module _ {A : Type 0} (status : ℕ) (r w : Seen) (flushed : Option (List ℕ)) (kept : Keeps w.bytes_after flushed) where
  pub trace_ended : (ended : Result A ReplayFault) → OnOk ended (Traces r.bytes r.bytes_after w.bytes w.bytes_after) → IfErr ended (StopsTrace r w) → IsEndOf ended status
      → EndsTrace status r.bytes r.bytes_after w.bytes flushed
  trace_ended (Ok x) ok err is = at_end r.bytes r.bytes_after w.bytes w.bytes_after flushed kept status ok is
  trace_ended (Err fault) ok err is =
      at_fault r.bytes r.bytes_after w.bytes w.bytes_after flushed kept err.0 status err.2.0 err.2.1 (subst (λ (f : ReplayFault). (status ≡ 5) ⊎ (status ≡ status_of f)) err.1 is)
