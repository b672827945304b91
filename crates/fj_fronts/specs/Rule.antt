-- What all seats of a log know together, and what the loads do.
use Rattle.std.specs.Prelude.{◌≡◌, ℕ, true, false, List, [], ◌∷◌, ◌++◌, Option, None, Some}
use mathlib.Core.List.{IsPrefix}
use mathlib.Core.Option.{some}
use lib.ListN.{get_elem?}
use Rattle.atomic_table.specs.Table.{State, Me, Step}
use Rattle.fj_fronts.specs.declared.word.Knowledge.{Knowledge}
use Rattle.fj_fronts.specs.Logs.{IsLonger}

-- the keeper's seat knows the log, and all that any seat knows begins it
pub record Fits {E : Type 0} (keeper : ℕ) (log : List E) (seat : ℕ) (v : Knowledge E) : Type 0 where
  pub keeps : v.is_keeper ≡ true → (seat ≡ keeper) × (v.known ≡ log)
  pub known_begins : IsPrefix v.known log
  pub beside_begins : IsPrefix v.beside log

module _ {E : Type 0} where
  -- what the keeper's seat knows
  abbrev pub keeper_of : List E → Knowledge E
  keeper_of log = record { is_keeper = true; known = log; beside = [] }

  -- what the seat of a front knows
  abbrev pub front_of : List E → Knowledge E
  front_of known = record { is_keeper = false; known = known; beside = [] }

  abbrev pub nothing : Knowledge E
  nothing = front_of []

  -- a seat to which another one was joined
  abbrev pub together : Knowledge E → Knowledge E → Knowledge E
  together v w = record { is_keeper = v.is_keeper; known = v.known; beside = w.known }

  -- there is a log with one keeper, which all seats fit
  abbrev pub AreOfLog : List (Knowledge E) → Type 0
  AreOfLog views = (keeper : ℕ) × (log : List E) × ((seat : ℕ) (v : Knowledge E) → get_elem? views seat ≡ some v → Fits keeper log seat v)

  -- the same of a table. Its word says nothing
  abbrev pub IsLog : State (Unit {0}) (Knowledge E) → Type 0
  IsLog s = AreOfLog s.views

  abbrev pub grown : Option E → Knowledge E → Knowledge E
  grown None v = v
  grown (Some entry) v = record { is_keeper = v.is_keeper; known = v.known ++ entry ∷ []; beside = v.beside }

  -- the chosen entry is appended
  abbrev pub Grows : Option E → Step (Unit {0}) → Me (Unit {0}) (Knowledge E) → ℕ → Me (Unit {0}) (Knowledge E) → Type 0
  Grows chosen st m found m' = m' ≡ (grown chosen m.0, m.1)

  -- what stood beside begins what the keeper knows
  abbrev pub Checks : Step (Unit {0}) → Me (Unit {0}) (Knowledge E) → ℕ → Me (Unit {0}) (Knowledge E) → Type 0
  Checks st m found m' = (m' ≡ (keeper_of m.0.known, m.1)) × IsPrefix m.0.beside m.0.known

  -- of what a front knew and what stood beside it knows the longer
  abbrev pub Compares : Step (Unit {0}) → Me (Unit {0}) (Knowledge E) → ℕ → Me (Unit {0}) (Knowledge E) → Type 0
  Compares st m found m' = (longer : List E) × (m' ≡ (front_of longer, m.1)) × IsLonger m.0.known m.0.beside longer
