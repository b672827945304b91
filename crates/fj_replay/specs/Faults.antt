-- What the result of a replay or an upgrade says of the bytes that were read. `first` is the stage before the first line.
use Rattle.std.specs.Prelude.{ℕ, ◌≡◌, ◌⊎◌, List, [], ◌∷◌, ◌++◌, Option, Some, true}
use Rattle.std.specs.Io.KnownBytes.{Appends, Consumes, IsAtEnd}
use Rattle.fj_rules.specs.Pasts.{Past}
use Rattle.fj_lines.specs.Headings.{IsOutOfLimits}
use Rattle.fj_streams.specs.Beginnings.{AppendsSome}
use Rattle.fj_streams.specs.Cuts.{lines, rest}
use Rattle.fj_streams.specs.Faults.{Stands, IsNoLine, IsGoodSoFar}
use Rattle.fj_replay.specs.declared.fault.ReplayFault.{ReplayFault}
use Rattle.fj_replay.specs.declared.fault.ReplayFault.TheVariants.{Line, Limits, Memory, Read, Write}
use Rattle.fj_replay.specs.declared.script_stage.ScriptStage.{ScriptStage}
use Rattle.fj_replay.specs.declared.script_stage.ScriptStage.TheVariants.{Start, Old, Rewrites}
use Rattle.fj_replay.specs.declared.script_stop.ScriptStop.TheVariants.{Faulty}
use Rattle.fj_replay.specs.Stages.{IsHeadless, script_rules}
use Rattle.fj_replay.specs.Scripts.{stage_from, text_from, is_good, text, up, IsRun}

-- this line is the first that is faulty or that does not end: it is whole, or it is longer than any canonical line, or the
-- input ends within it or before the heading
abbrev pub IsFirstFault : ScriptStage → ℕ → List ℕ → Option (List ℕ) → Type 0
IsFirstFault first n b ahead = Stands script_rules first n Faulty b ⊎ IsNoLine script_rules first n b ahead

-- the heading has a limit out of its range
abbrev pub OpensOutOfLimits : ScriptStage → List (List ℕ) → Type 0
OpensOutOfLimits first ls =
    (before : List (List ℕ)) × (line : List ℕ) × (after : List (List ℕ)) × (stage : ScriptStage)
    × (ls ≡ before ++ line ∷ after) × (stage_from first before ≡ Some stage) × IsHeadless stage × IsOutOfLimits line

-- what a fault says of the bytes that were read, of those ahead, and of what was written
abbrev pub FaultOf : ScriptStage → ReplayFault → List ℕ → Option (List ℕ) → Option (List ℕ) → Option (List ℕ) → Type 0
FaultOf first (Line n) b ahead start now = IsFirstFault first n b ahead × Appends start now (text_from first (lines b))
FaultOf first Limits b ahead start now = OpensOutOfLimits first (lines b) × Appends start now []
FaultOf first Memory b ahead start now = AppendsSome start now (text_from first (lines b))
FaultOf first Read b ahead start now = IsGoodSoFar script_rules first b × Appends start now (text_from first (lines b))
FaultOf first Write b ahead start now = AppendsSome start now (text_from first (lines b))

-- the work on these bytes ended by this fault
pub record EndsFrom (first : ScriptStage) (fault : ReplayFault) (b : List ℕ) (before ahead start now : Option (List ℕ)) : Type 0 where
  pub read : Consumes before ahead b
  pub means : FaultOf first fault b ahead start now

-- ---- a replay

-- the replay of these bytes ended by this fault
abbrev pub Ends : ReplayFault → List ℕ → Option (List ℕ) → Option (List ℕ) → Option (List ℕ) → Option (List ℕ) → Type 0
Ends fault b before ahead start now = EndsFrom Start fault b before ahead start now

-- a whole script: a heading within the limits and canonical steps, and nothing after the last line feed
pub record IsScript (b : List ℕ) : Type 0 where
  pub good : is_good Start (lines b) ≡ true
  pub ended : rest b ≡ []
  pub run : IsRun b

-- these bytes are the whole input and a script, and the replies to it were written
pub record IsReplayed (b : List ℕ) (before ahead start now : Option (List ℕ)) : Type 0 where
  pub read : Consumes before ahead b
  pub whole : IsAtEnd ahead
  pub script : IsScript b
  pub written : Appends start now (text b)

-- these bytes were read, and a prefix of the replies to them was written
pub record IsBegun (b : List ℕ) (before ahead start now : Option (List ℕ)) : Type 0 where
  pub read : Consumes before ahead b
  pub written : AppendsSome start now (text b)

-- some bytes are the whole input and a script, and the replies to it were written
abbrev pub Replays : Option (List ℕ) → Option (List ℕ) → Option (List ℕ) → Option (List ℕ) → Type 0
Replays before ahead start now = (b : List ℕ) × IsReplayed b before ahead start now

-- some bytes were read, and a prefix of the replies to them was written
abbrev pub Begins : Option (List ℕ) → Option (List ℕ) → Option (List ℕ) → Option (List ℕ) → Type 0
Begins before ahead start now = (b : List ℕ) × IsBegun b before ahead start now

-- ---- an upgrade: a script of version 1 is written as version 2

-- the upgrade of these bytes ended by this fault
abbrev pub EndsUpgrade : ReplayFault → List ℕ → Option (List ℕ) → Option (List ℕ) → Option (List ℕ) → Option (List ℕ) → Type 0
EndsUpgrade fault b before ahead start now = EndsFrom Old fault b before ahead start now

-- a whole script of version 1: a heading within the limits and canonical steps, and nothing after the last line feed
pub record IsOldScript (b : List ℕ) : Type 0 where
  pub past : Past
  pub good : stage_from Old (lines b) ≡ Some (Rewrites past)
  pub ended : rest b ≡ []

-- these bytes are the whole input and a script of version 1, and it was written as version 2
pub record IsUpgraded (b : List ℕ) (before ahead start now : Option (List ℕ)) : Type 0 where
  pub read : Consumes before ahead b
  pub whole : IsAtEnd ahead
  pub script : IsOldScript b
  pub written : Appends start now (up b)

-- these bytes were read, and a prefix of them as version 2 was written
pub record IsUpgradeBegun (b : List ℕ) (before ahead start now : Option (List ℕ)) : Type 0 where
  pub read : Consumes before ahead b
  pub written : AppendsSome start now (up b)

-- some bytes are the whole input and a script of version 1, and it was written as version 2
abbrev pub Upgrades : Option (List ℕ) → Option (List ℕ) → Option (List ℕ) → Option (List ℕ) → Type 0
Upgrades before ahead start now = (b : List ℕ) × IsUpgraded b before ahead start now

-- some bytes were read, and a prefix of them as version 2 was written
abbrev pub BeginsUpgrade : Option (List ℕ) → Option (List ℕ) → Option (List ℕ) → Option (List ℕ) → Type 0
BeginsUpgrade before ahead start now = (b : List ℕ) × IsUpgradeBegun b before ahead start now
