-- Where memory ran out. `Needs` says which lines need some at which state.
use Rattle.std.specs.Prelude.{ℕ, ⊤, ◌≡◌, ◌⊎◌, List, [], ◌∷◌, ◌++◌, Option, Some}
use Rattle.std.specs.Io.KnownBytes.{Appends, Consumes}
use Rattle.fj_streams.specs.declared.fault.FilterFault.{FilterFault}
use Rattle.fj_streams.specs.declared.fault.FilterFault.TheVariants.{Stop, Line, Memory, Read, Write}
use Rattle.fj_streams.specs.declared.fault.LineStop.{LineStop}
use Rattle.fj_streams.specs.declared.fault.LineStop.TheVariants as fails
use Rattle.fj_streams.specs.Cuts.{lines}
use Rattle.fj_streams.specs.Rules.{Rules, state_from, text_from}

module _ {A S : Type 0} (Needs : A → List ℕ → Type 0) where
  -- ---- one line

  -- where memory ran out at this line, the line needs some, and nothing was written of it
  abbrev pub StarvesAtLine : A → List ℕ → LineStop S → Option (List ℕ) → Option (List ℕ) → Type 0
  StarvesAtLine state line (fails.Stop stop) old new = ⊤
  StarvesAtLine state line fails.Memory old new = Needs state line × Appends old new []
  StarvesAtLine state line fails.Write old new = ⊤

-- ---- many lines

module _ {A S : Type 0} (rules : Rules A S) (Needs : A → List ℕ → Type 0) where
  -- a line of these bytes needs memory, all before it may stand where they are, and exactly their texts were written
  pub record IsStarved (first : A) (b : List ℕ) (start now : Option (List ℕ)) : Type 0 where
    pub before : List (List ℕ)
    pub line : List ℕ
    pub later : List (List ℕ)
    pub state : A
    pub cut : lines b ≡ before ++ line ∷ later
    pub good : state_from rules first before ≡ Some state
    pub needs : Needs state line
    pub written : Appends start now (text_from rules first before)

  -- where memory ran out in these bytes, it did at such a line
  abbrev pub Starves : A → FilterFault S → List ℕ → Option (List ℕ) → Option (List ℕ) → Type 0
  Starves first (Stop n stop) b start now = ⊤
  Starves first (Line n) b start now = ⊤
  Starves first Memory b start now = IsStarved first b start now
  Starves first Read b start now = ⊤
  Starves first Write b start now = ⊤

  -- nothing was read or written
  abbrev pub IsUnbegun : List ℕ → Option (List ℕ) → Option (List ℕ) → Type 0
  IsUnbegun b start now = (b ≡ []) × Appends start now []

  -- where memory ran out, it did before the first read, or at such a line of the bytes that were read
  abbrev pub StarvesFrom : A → FilterFault S → Option (List ℕ) → Option (List ℕ) → Option (List ℕ) → Option (List ℕ) → Type 0
  StarvesFrom first (Stop n stop) before ahead start now = ⊤
  StarvesFrom first (Line n) before ahead start now = ⊤
  StarvesFrom first Memory before ahead start now = (b : List ℕ) × Consumes before ahead b × (IsUnbegun b start now ⊎ IsStarved first b start now)
  StarvesFrom first Read before ahead start now = ⊤
  StarvesFrom first Write before ahead start now = ⊤
