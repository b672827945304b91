-- Where a script may run out of memory.
use Rattle.std.specs.Prelude.{ℕ, ⊤, ◌≡◌, ◌⊎◌, false, List, [], ◌∷◌, ◌++◌, Option, Some, None}
use Rattle.std.specs.Io.KnownBytes.{Appends, Consumes}
use Rattle.fj_rules.specs.Epochs.{seal_refusal}
use Rattle.fj_streams.specs.Cuts.{lines}
use Rattle.fj_streams.specs.declared.fault.LineStop.{LineStop}
use Rattle.fj_streams.specs.declared.fault.LineStop.TheVariants.{Stop, Memory, Write}
use Rattle.fj_replay.specs.declared.script_stop.ScriptStop.{ScriptStop}
use Rattle.fj_replay.specs.declared.asked.Asked.{Asked}
use Rattle.fj_replay.specs.declared.asked.Asked.TheVariants as ask
use Rattle.fj_replay.specs.declared.script_stage.ScriptStage.{ScriptStage}
use Rattle.fj_replay.specs.declared.script_stage.ScriptStage.TheVariants.{Start, Titled, Plays, Old, Rewrites}
use Rattle.fj_replay.specs.Namings.{is_named}
use Rattle.fj_replay.specs.Plays.{Play, asked_in}
use Rattle.fj_replay.specs.Scripts.{is_titled, stage_from, text_from}

-- what is asked for takes memory: a name that belongs to no task, or a seal that nothing refuses
abbrev pub TakesMemory : Play → Asked → Type 0
TakesMemory play (ask.Step wanted) = ⊥
TakesMemory play (ask.Accept name wanted) = is_named play.naming name ≡ false
TakesMemory play ask.Seal = seal_refusal play.past ≡ None
TakesMemory play ask.Epoch = ⊥

-- where memory ran out at what is asked for, that takes some, and nothing was written
abbrev pub StarvesAsked : Play → Asked → LineStop ScriptStop → Option (List ℕ) → Option (List ℕ) → Type 0
StarvesAsked play asked (Stop stop) old new = ⊤
StarvesAsked play asked Memory old new = TakesMemory play asked × Appends old new []
StarvesAsked play asked Write old new = ⊤

-- the line takes memory: a heading, and behind that of a replay a line that asks for such a thing
abbrev pub NeedsMemory : ScriptStage → List ℕ → Type 0
NeedsMemory Start line = ⊤
NeedsMemory Titled line = ⊤
NeedsMemory (Plays play) line = (asked : Asked) × (asked_in play.naming line ≡ Some asked) × TakesMemory play asked
NeedsMemory Old line = ⊤
NeedsMemory (Rewrites past) line = ⊥

-- in these bytes a line behind the heading asks for what takes memory, and exactly the replies to the lines before it were written
pub record IsShort (b : List ℕ) (start now : Option (List ℕ)) : Type 0 where
  pub before : List (List ℕ)
  pub line : List ℕ
  pub later : List (List ℕ)
  pub play : Play
  pub asked : Asked
  pub cut : lines b ≡ before ++ line ∷ later
  pub good : stage_from Start before ≡ Some (Plays play)
  pub asks : asked_in play.naming line ≡ Some asked
  pub takes : TakesMemory play asked
  pub written : Appends start now (text_from Start before)

-- memory ran out in the replay of these bytes: in version 1 before anything was written, in version 2 then or at such a line
pub record IsStarved (b : List ℕ) (before ahead start now : Option (List ℕ)) : Type 0 where
  pub read : Consumes before ahead b
  pub numbered : is_titled (lines b) ≡ false → Appends start now []
  pub named : Appends start now [] ⊎ IsShort b start now

-- the same of some bytes
abbrev pub Starves : Option (List ℕ) → Option (List ℕ) → Option (List ℕ) → Option (List ℕ) → Type 0
Starves before ahead start now = (b : List ℕ) × IsStarved b before ahead start now
