-- How a replay or an upgrade ends, by how its filter does.
use Rattle.std.proofs.Common.{ℕ, ◌≡◌, refl, ◌∙◌, List, [], ◌∷◌, inl, inr, Option, Some}
use Rattle.std.specs.Io.KnownBytes.{Appends}
use Rattle.fj_streams.specs.Calls.{Calls}
use Rattle.fj_streams.specs.declared.fault.FilterFault.{FilterFault}
use Rattle.fj_streams.specs.declared.fault.FilterFault.TheVariants as filter
use Rattle.fj_streams.specs.Cuts.{lines}
use Rattle.fj_streams.specs.Faults.{Stands, FaultOf as FilterFaultOf}
use Rattle.fj_streams.specs.Tells.{Seen, FaultTells as FilterTells, StopsFrom as FilterStops}
use Rattle.fj_streams.proofs.States.{text-append, text-stops}
use Rattle.fj_replay.specs.declared.fault.ReplayFault.{ReplayFault}
use Rattle.fj_replay.specs.declared.fault.ReplayFault.TheVariants.{Limits, Memory, Write}
use Rattle.fj_replay.specs.declared.script_stage.ScriptStage.{ScriptStage}
use Rattle.fj_replay.specs.declared.script_stop.ScriptStop.{ScriptStop}
use Rattle.fj_replay.specs.declared.script_stop.ScriptStop.TheVariants as stop
use Rattle.fj_replay.specs.Stages.{script_rules}
use Rattle.fj_replay.specs.Scripts.{text_from}
use Rattle.fj_replay.specs.Faults.{EndsFrom, FaultOf}
use Rattle.fj_replay.specs.Stops.{replay_fault}
use Rattle.fj_replay.specs.Tells.{FaultTells, StopsFrom}
use Rattle.fj_replay.proofs.Stages.{headless_silent}

-- nothing is written at a heading that is out of its limits, nor behind it
out_of_limits : (first : ScriptStage) (n : ℕ) (b : List ℕ) (ahead start now : Option (List ℕ)) → Stands script_rules first n stop.Limits b → Appends start now (text_from first (lines b)) → FaultOf first Limits b ahead start now
out_of_limits first n b ahead start now s wrote =
    let behind : text_from s.state (s.line ∷ s.later) ≡ [] = text-stops script_rules s.state s.line s.later s.barred in
    let before : text_from first s.before ≡ [] = headless_silent first s.state s.before s.good s.reason.0 in
    let silent : text_from first (lines b) ≡ [] = rw s.cut (text-append script_rules first s.state s.before (s.line ∷ s.later) s.good ∙ rw (before, behind) refl) in
    ((s.before, s.line, s.later, s.state, s.cut, s.good, s.reason.0, s.reason.1), rw silent at wrote)

means : (first : ScriptStage) (fault : FilterFault ScriptStop) (b : List ℕ) (ahead start now : Option (List ℕ)) → FilterFaultOf script_rules first fault b ahead start now → FaultOf first (replay_fault fault) b ahead start now
means first (filter.Stop n stop.Faulty) b ahead start now f = (inl f.0, f.1)
means first (filter.Stop n stop.Limits) b ahead start now f = out_of_limits first n b ahead start now f.0 f.1
means first (filter.Line n) b ahead start now f = (inr f.0, f.1)
means first filter.Memory b ahead start now f = f
means first filter.Read b ahead start now f = f
means first filter.Write b ahead start now f = f

tells : (fault : FilterFault ScriptStop) (b : List ℕ) (read now written after : Option Calls) → FilterTells fault b read now written after → FaultTells (replay_fault fault) b read now written after
tells (filter.Stop n stop.Faulty) b read now written after t = t
tells (filter.Stop n stop.Limits) b read now written after t = t
tells (filter.Line n) b read now written after t = t
tells filter.Memory b read now written after t = t
tells filter.Read b read now written after t = t
tells filter.Write b read now written after t = t

pub stops : (first : ScriptStage) (r w : Seen) (fault : FilterFault ScriptStop) → FilterStops script_rules first r w fault → StopsFrom first r w (replay_fault fault)
stops first r w fault (b, ends, told) = (b, record { read = ends.read; means = means first fault b _ _ _ ends.means }, tells fault b _ _ _ _ told)

-- ---- in memory

-- replies that lie in memory are refused a byte only where it is out of memory
pub write_is_memory : (first : ScriptStage) (b : List ℕ) (before ahead start now : Option (List ℕ)) → EndsFrom first Write b before ahead start now → EndsFrom first Memory b before ahead start now
write_is_memory first b before ahead start now e = record { read = e.read; means = e.means }

pub ends_in_memory : (first : ScriptStage) (fault : ReplayFault) (b whole script written : List ℕ) (ahead now : Option (List ℕ)) → whole ≡ script → written ≡ [] → EndsFrom first fault b (Some whole) ahead (Some written) now → EndsFrom first fault b (Some script) ahead (Some []) now
ends_in_memory first fault b whole script written ahead now same empty e = rw (same, empty) at e
