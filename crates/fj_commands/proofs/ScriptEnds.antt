-- How a script ended, once what was written of it was flushed.
use Rattle.std.proofs.Common.{ℕ, ◌≡◌, ◌⊎◌, ◌∙◌, ⊎_elim, inl, inr, refl, sym, subst, arith, List, Option}
use Rattle.std.specs.Prelude.{Result, Ok, Err, OnOk, IfErr, ◌<◌}
use Rattle.std.specs.Io.KnownBytes.{Keeps}
use Rattle.fj_streams.proofs.Bytes.{appends_keeps}
use Rattle.fj_replay.specs.declared.fault.ReplayFault.{ReplayFault}
use Rattle.fj_replay.specs.declared.fault.ReplayFault.TheVariants.{Line, Limits, Memory, Read, Write}
use Rattle.fj_replay.specs.declared.script_stage.ScriptStage.{ScriptStage}
use Rattle.fj_replay.specs.declared.script_stage.ScriptStage.TheVariants.{Start, Old}
use Rattle.fj_replay.specs.Faults.{EndsFrom, FaultOf, Replays, Upgrades}
use Rattle.fj_replay.specs.Tells.{Seen, Stops, StopsUpgrade}
use Rattle.fj_replay.proofs.Begun.{begun_whole, begun_fault, upgrade_begun_whole, upgrade_begun_fault}
use Rattle.fj_commands.specs.Statuses.{EndsBy, EndsReplay, EndsScript, EndsUpgrade, IsEndOf, status_of}

-- an exit status of a command for scripts
abbrev pub IsOfScript : ℕ → Type 0
IsOfScript status = (status ≡ 0) ⊎ ((status ≡ 3) ⊎ ((status ≡ 4) ⊎ (status ≡ 5)))

pub of_fault : (fault : ReplayFault) → IsOfScript (status_of fault)
of_fault (Line n) = inr (inl refl)
of_fault Limits = inr (inl refl)
of_fault Memory = inr (inr (inl refl))
of_fault Read = inr (inr (inr refl))
of_fault Write = inr (inr (inr refl))

pub no_fault_is_well : (fault : ReplayFault) → 0 ≡ status_of fault → ⊥
no_fault_is_well (Line n) e = omega (arith, e)
no_fault_is_well Limits e = omega (arith, e)
no_fault_is_well Memory e = omega (arith, e)
no_fault_is_well Read e = omega (arith, e)
no_fault_is_well Write e = omega (arith, e)

-- ---- a flush leaves what was written

module _ (before ahead start now flushed : Option (List ℕ)) (kept : Keeps now flushed) where
  pub replays_kept : Replays before ahead start now → Replays before ahead start flushed
  replays_kept r = (r.0, record { read = r.1.read; whole = r.1.whole; script = r.1.script; written = appends_keeps start now flushed _ r.1.written kept })

  pub upgrades_kept : Upgrades before ahead start now → Upgrades before ahead start flushed
  upgrades_kept r = (r.0, record { read = r.1.read; whole = r.1.whole; script = r.1.script; written = appends_keeps start now flushed _ r.1.written kept })

  fault_kept : (first : ScriptStage) (fault : ReplayFault) (b : List ℕ) → FaultOf first fault b ahead start now → FaultOf first fault b ahead start flushed
  fault_kept first (Line n) b f = (f.0, appends_keeps start now flushed _ f.1 kept)
  fault_kept first Limits b f = (f.0, appends_keeps start now flushed _ f.1 kept)
  fault_kept first Memory b f = (f.0, appends_keeps start now flushed _ f.1 kept)
  fault_kept first Read b f = (f.0, appends_keeps start now flushed _ f.1 kept)
  fault_kept first Write b f = (f.0, appends_keeps start now flushed _ f.1 kept)

  pub ends_kept : (first : ScriptStage) (fault : ReplayFault) (b : List ℕ) → EndsFrom first fault b before ahead start now → EndsFrom first fault b before ahead start flushed
  ends_kept first fault b e = record { read = e.read; means = fault_kept first fault b e.means }

-- ---- the exit status

module _ (first : ScriptStage) (Done Begun : Type 0) (before ahead start now : Option (List ℕ)) where
  -- the same fault with its own status
  with_status : (fault : ReplayFault) (status wanted : ℕ) → (b : List ℕ) × EndsFrom first fault b before ahead start now → (status ≡ 5) ⊎ (status ≡ status_of fault) → status ≡ wanted → wanted < 5 → EndsBy first wanted before ahead start now
  with_status fault status wanted e is want less =
      ⊎_elim (λ five. absurd (omega (arith, five, want, less))) (λ own. (fault, e.0, sym want ∙ own, e.1)) is

  at_fault : (fault : ReplayFault) (status : ℕ) → (b : List ℕ) × EndsFrom first fault b before ahead start now → Begun → (status ≡ 5) ⊎ (status ≡ status_of fault) → EndsScript first status Done Begun before ahead start now
  at_fault fault status e begun is = record {
    known = ⊎_elim (λ five. inr (inr (inr five))) (λ own. subst IsOfScript (sym own) (of_fault fault)) is;
    done = λ zero. ⊎_elim (λ five. absurd (omega (arith, five, zero))) (λ own. absurd (no_fault_is_well fault (sym zero ∙ own))) is;
    fault = λ three. with_status fault status 3 e is three (omega arith);
    memory = λ four. with_status fault status 4 e is four (omega arith);
    begun = begun;
  }

  at_end : (status : ℕ) → Done → Begun → (status ≡ 5) ⊎ (status ≡ 0) → EndsScript first status Done Begun before ahead start now
  at_end status done begun is = record {
    known = ⊎_elim (λ five. inr (inr (inr five))) (λ zero. inl zero) is;
    done = λ zero. done;
    fault = λ three. ⊎_elim (λ five. absurd (omega (arith, five, three))) (λ zero. absurd (omega (arith, zero, three))) is;
    memory = λ four. ⊎_elim (λ five. absurd (omega (arith, five, four))) (λ zero. absurd (omega (arith, zero, four))) is;
    begun = begun;
  }

-- ---- the two commands

module _ {A : Type 0} (status : ℕ) (r w : Seen) (flushed : Option (List ℕ)) (kept : Keeps w.bytes_after flushed) where
  pub replay_ended : (ended : Result A ReplayFault) → OnOk ended (Replays r.bytes r.bytes_after w.bytes w.bytes_after) → IfErr ended (Stops r w) → IsEndOf ended status
      → EndsReplay status r.bytes r.bytes_after w.bytes flushed
  replay_ended (Ok x) ok err is =
      at_end Start _ _ r.bytes r.bytes_after w.bytes flushed status (replays_kept _ _ _ _ _ kept ok) (begun_whole _ _ _ _ _ ok kept) is
  replay_ended (Err fault) ok err is =
      at_fault Start _ _ r.bytes r.bytes_after w.bytes flushed fault status (err.0, ends_kept _ _ _ _ _ kept Start fault err.0 err.1)
      (begun_fault fault _ _ _ _ _ (err.0, err.1) kept) is

  pub upgrade_ended : (ended : Result A ReplayFault) → OnOk ended (Upgrades r.bytes r.bytes_after w.bytes w.bytes_after) → IfErr ended (StopsUpgrade r w) → IsEndOf ended status
      → EndsUpgrade status r.bytes r.bytes_after w.bytes flushed
  upgrade_ended (Ok x) ok err is =
      at_end Old _ _ r.bytes r.bytes_after w.bytes flushed status (upgrades_kept _ _ _ _ _ kept ok) (upgrade_begun_whole _ _ _ _ _ ok kept) is
  upgrade_ended (Err fault) ok err is =
      at_fault Old _ _ r.bytes r.bytes_after w.bytes flushed fault status (err.0, ends_kept _ _ _ _ _ kept Old fault err.0 err.1)
      (upgrade_begun_fault fault _ _ _ _ _ (err.0, err.1) kept) is
