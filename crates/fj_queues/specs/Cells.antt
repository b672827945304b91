-- Cells in a table, named by their indices.
use Rattle.std.specs.Prelude.{◌≡◌, ◌≢◌, ◌+◌, ℕ, List, length, Option, Some, None, get_or}
use Rattle.fj_queues.specs.declared.cells.Cell.{Cell}

-- the cell past the end of the table
abbrev pub blank : Cell
blank = record { serial = 0; older = None; newer = None }

abbrev pub cell_at : List Cell → ℕ → Cell
cell_at cells c = get_or cells c blank

abbrev pub serial_at : List Cell → ℕ → ℕ
serial_at cells c = (cell_at cells c).serial

abbrev pub older_at : List Cell → ℕ → Option ℕ
older_at cells c = (cell_at cells c).older

abbrev pub newer_at : List Cell → ℕ → Option ℕ
newer_at cells c = (cell_at cells c).newer

-- the cell, linked to the chain of free ones
abbrev pub freed : List Cell → ℕ → Option ℕ → Cell
freed cells c free = record (cell_at cells c) { newer = free }

-- one cell holds this, and all others hold what they held
pub record IsWritten (old new : List Cell) (c : ℕ) (cell : Cell) : Type 0 where
  pub here : cell_at new c ≡ cell
  pub others : (d : ℕ) → d ≢ c → cell_at new d ≡ cell_at old d

-- these two are neighbours, with none past an end, and all else stays
pub record AreJoined (old new : List Cell) (older newer : Option ℕ) : Type 0 where
  pub leads : (c : ℕ) → older ≡ Some c → newer_at new c ≡ newer
  pub follows : (c : ℕ) → newer ≡ Some c → older_at new c ≡ older
  pub newer_stays : (c : ℕ) → older ≢ Some c → newer_at new c ≡ newer_at old c
  pub older_stays : (c : ℕ) → newer ≢ Some c → older_at new c ≡ older_at old c
  pub serials_stay : (c : ℕ) → serial_at new c ≡ serial_at old c

-- the filled cell is the first free one, whose successor in the chain takes its role, or a new one after the others
abbrev pub NextFree : List Cell → List Cell → Option ℕ → Option ℕ → ℕ → Type 0
NextFree old new None free c = (c ≡ length old) × (free ≡ None) × (length new ≡ length old + 1)
NextFree old new (Some first) free c = (c ≡ first) × (free ≡ newer_at old first) × (length new ≡ length old)
