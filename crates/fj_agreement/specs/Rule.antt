-- What all seats of a pair know together, and what a load proves of it.
use Rattle.std.specs.Prelude.{◌≡◌, ℕ, List, length, All, sum_by}
use mathlib.Core.Option.{some}
use lib.ListN.{get_elem?}
use Rattle.atomic_table.specs.Table.{State, Me, Step}

module _ {V : Type 0} where
  -- all that a seat knows is this value
  abbrev pub KnowsOnly : V → List V → Type 0
  KnowsOnly value known = All (λ x. x ≡ value) known

  -- One value is all that any seat knows, and together they have it twice: once for each end
  abbrev pub Agree : List (List V) → Type 0
  Agree views =
      (value : V)
      × ((seat : ℕ) (known : List V) → get_elem? views seat ≡ some known → KnowsOnly value known)
      × (sum_by (λ (known : List V). length known) views ≡ 2)

  -- the same of a table. Its word says nothing
  abbrev pub IsAgreed : State (Unit {0}) (List V) → Type 0
  IsAgreed s = Agree s.views

  -- a load proves that all that the seat knows is one value
  abbrev pub Meets : Step (Unit {0}) → Me (Unit {0}) (List V) → ℕ → Me (Unit {0}) (List V) → Type 0
  Meets st m found m' = (m' ≡ m) × (value : V) × KnowsOnly value m.0
