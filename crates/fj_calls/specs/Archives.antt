-- The sealed parts of a history: first those that were handed out, then those that are kept.
use Rattle.std.specs.Prelude.{ℕ, ◌<◌, List, [], ◌++◌, length, Option, Some, None}
use Rattle.fj_rules.specs.declared.epoch.Sealed.{Sealed}

-- the parts that were handed out, and those that are kept, the oldest first; and for how many of these there is room
pub record Archived : Type 0 where
  pub handed : List Sealed
  pub kept : List Sealed
  pub room : ℕ

-- all parts handed out, where this was the archive before the last ones were
abbrev pub handed_in : Option Archived → List Sealed
handed_in None = []
handed_in (Some before) = before.handed ++ before.kept

-- there were parts to take
abbrev pub HadParts : Option Archived → Type 0
HadParts None = Unit {0}
HadParts (Some before) = 0 < length before.kept
