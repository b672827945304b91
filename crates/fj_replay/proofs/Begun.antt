-- However a replay or an upgrade ends, a beginning of what it writes of the bytes read was written.
use Rattle.std.proofs.Common.{ℕ, List, Option}
use Rattle.std.specs.Io.KnownBytes.{Keeps}
use Rattle.fj_replay.specs.declared.fault.ReplayFault.{ReplayFault}
use Rattle.fj_replay.specs.declared.fault.ReplayFault.TheVariants.{Line, Limits, Memory, Read, Write}
use Rattle.fj_streams.specs.Beginnings.{AppendsSome}
use Rattle.fj_replay.specs.declared.script_stage.ScriptStage.{ScriptStage}
use Rattle.fj_replay.specs.declared.script_stage.ScriptStage.TheVariants.{Start, Old}
use Rattle.fj_streams.specs.Cuts.{lines}
use Rattle.fj_replay.specs.Scripts.{text, text_from, up}
use Rattle.fj_replay.specs.Faults.{Ends, EndsUpgrade, FaultOf, IsBegun, IsReplayed, IsUpgradeBegun, IsUpgraded}
use Rattle.fj_streams.proofs.Begun.{all_some, some_keeps}

fault_some : (first : ScriptStage) (fault : ReplayFault) (b : List ℕ) (ahead start now : Option (List ℕ)) → FaultOf first fault b ahead start now → AppendsSome start now (text_from first (lines b))
fault_some first (Line n) b ahead start now f = all_some start now (text_from first (lines b)) f.1
fault_some first Limits b ahead start now f = (0, f.1)
fault_some first Memory b ahead start now f = f
fault_some first Read b ahead start now f = all_some start now (text_from first (lines b)) f.1
fault_some first Write b ahead start now f = f

-- a replay that came to its end, and then a flush
pub begun_whole : (before ahead start now flushed : Option (List ℕ)) → (b : List ℕ) × IsReplayed b before ahead start now → Keeps now flushed → (b : List ℕ) × IsBegun b before ahead start flushed
begun_whole before ahead start now flushed r k = (
  r.0,
  record {
    read = r.1.read;
    written = some_keeps start now flushed _ (all_some start now (text r.0) r.1.written) k;
  },
)

-- a replay that ended by a fault, and then a flush
pub begun_fault : (fault : ReplayFault) (before ahead start now flushed : Option (List ℕ)) → (b : List ℕ) × Ends fault b before ahead start now → Keeps now flushed → (b : List ℕ) × IsBegun b before ahead start flushed
begun_fault fault before ahead start now flushed r k = (
  r.0,
  record {
    read = r.1.read;
    written = some_keeps start now flushed _ (fault_some Start fault r.0 ahead start now r.1.means) k;
  },
)

-- ---- the same of an upgrade

pub upgrade_begun_whole : (before ahead start now flushed : Option (List ℕ)) → (b : List ℕ) × IsUpgraded b before ahead start now → Keeps now flushed → (b : List ℕ) × IsUpgradeBegun b before ahead start flushed
upgrade_begun_whole before ahead start now flushed r k = (
  r.0,
  record {
    read = r.1.read;
    written = some_keeps start now flushed _ (all_some start now (up r.0) r.1.written) k;
  },
)

pub upgrade_begun_fault : (fault : ReplayFault) (before ahead start now flushed : Option (List ℕ)) → (b : List ℕ) × EndsUpgrade fault b before ahead start now → Keeps now flushed → (b : List ℕ) × IsUpgradeBegun b before ahead start flushed
upgrade_begun_fault fault before ahead start now flushed r k = (
  r.0,
  record {
    read = r.1.read;
    written = some_keeps start now flushed _ (fault_some Old fault r.0 ahead start now r.1.means) k;
  },
)
