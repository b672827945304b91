-- The gate's invariant: what its word is, beside what each seat has drawn, seen and been told. It holds between any two steps.
use Rattle.std.specs.Prelude.{◌≡◌, ◌⊎◌, ℕ, ◌+◌, ◌*◌, ◌≤◌, List, length, slice_index, Some, None, flat_map, sum_by}
use mathlib.Core.Option.{some}
use lib.ListN.{get_elem?}
use Rattle.atomic_table.specs.Table.{State}
use Rattle.fj_rules.specs.declared.limits.TheConstants.{MAX_SUBMITTERS}
use Rattle.fj_gate.specs.declared.new_gate.TheConstants.{MAX_TICKETS}
use Rattle.fj_gate.specs.Numbers.{IsNumbersBelow}
use Rattle.fj_gate.specs.declared.word.View.{View}

-- the drawn lists of all seats, joined
abbrev pub joined : List View → List ℕ
joined views = flat_map (λ v. v.drawn) views

-- how many were admitted
abbrev pub admitted : List View → ℕ
admitted views = length (joined views)

-- how many entrants were told Closed by an admission
abbrev pub turned_away : List View → ℕ
turned_away views = sum_by (λ v. v.told) views

-- what holds of the view of each seat
abbrev pub EachSeat : (View → Type 0) → List View → Type 0
EachSeat P views = (seat : ℕ) (v : View) → get_elem? views seat ≡ some v → P v

-- it was not told Closed, and has no closing number
abbrev pub IsUntold : View → Type 0
IsUntold v = (v.told ≡ 0) × (v.heard ≡ 0) × (v.closed ≡ None)

-- The word is even, twice the admissions. Nobody was told Closed, and no closing number is set
abbrev pub IsOpen : ℕ → List View → Type 0
IsOpen word views = (word ≡ 2 * admitted views) × EachSeat IsUntold views

-- The word is odd. The closer, which has the first seat, knows the closing number, and no ticket was drawn beyond it
abbrev pub IsClosed : ℕ → List View → Type 0
IsClosed word views =
    (word ≡ 2 * (admitted views + turned_away views) + 1)
    × (closer : View) × (get_elem? views 0 ≡ some closer) × (closer.closed ≡ Some (admitted views))

-- It has seen no more admissions than there were. Each part is one entrant's right: to draw at most `MAX_TICKETS` tickets, and to be told
-- Closed once by an admission
abbrev pub Fits : ℕ → View → Type 0
Fits count v = (v.seen ≤ count) × (length v.drawn ≤ MAX_TICKETS * v.parts) × (v.told ≤ v.parts)

-- The tickets drawn are the numbers below the count of admissions, each once. All seats together have `MAX_SUBMITTERS` parts
abbrev pub IsGate : ℕ → List View → Type 0
IsGate word views =
    (IsOpen word views ⊎ IsClosed word views)
    × IsNumbersBelow (admitted views) (joined views)
    × (sum_by (λ v. v.parts) views ≡ MAX_SUBMITTERS)
    × EachSeat (Fits (admitted views)) views

-- the same of a table, which has one word
abbrev pub IsRuled : State (Unit {0}) View → Type 0
IsRuled s = (length s.words ≡ 1) × IsGate (slice_index s.words 0) s.views
