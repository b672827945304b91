-- Cells that are linked in both directions.
use Rattle.std.specs.Prelude.{◌≡◌, ◌≤◌, ◌<◌, ℕ, zero, suc, List, [], ◌∷◌, ◌++◌, length, Option, Some, None}
use Rattle.fj_rules.specs.Lists.{times_in}
use Rattle.fj_queues.specs.declared.cells.Cell.{Cell}
use Rattle.fj_queues.specs.declared.ends.Ends.{Ends}
use Rattle.fj_queues.specs.Cells.{serial_at, older_at, newer_at}

-- the first of these cells, or this one if there is none
abbrev pub head_or : Option ℕ → List ℕ → Option ℕ
head_or after [] = after
head_or after (c ∷ cs) = Some c

-- the last of these cells, or this one if there is none
abbrev pub last_or : Option ℕ → List ℕ → Option ℕ
last_or before [] = before
last_or before (c ∷ cs) = last_or (Some c) cs

-- each of these cells leads to the next one, and the last of them to this
abbrev pub Leads : (ℕ → Option ℕ) → List ℕ → Option ℕ → Type 0
Leads newer [] after = Unit {0}
Leads newer (c ∷ cs) after = (newer c ≡ head_or after cs) × Leads newer cs after

-- each of these cells follows the one before, and the first of them this
abbrev pub Follows : (ℕ → Option ℕ) → Option ℕ → List ℕ → Type 0
Follows older before [] = Unit {0}
Follows older before (c ∷ cs) = (older c ≡ before) × Follows older (Some c) cs

-- these cells are linked from end to end, oldest first
pub record IsChain (cells : List Cell) (ends : Ends) (cs : List ℕ) : Type 0 where
  pub oldest : ends.oldest ≡ head_or None cs
  pub newest : ends.newest ≡ last_or None cs
  pub counted : ends.len ≡ length cs
  pub leads : Leads (newer_at cells) cs None
  pub follows : Follows (older_at cells) None cs

-- these cells are in the table and distinct
pub record AreApart (cells : List Cell) (cs : List ℕ) : Type 0 where
  pub once : (c : ℕ) → times_in c cs ≤ 1
  pub within : (c : ℕ) → 0 < times_in c cs → c < length cells

-- between these ends there is a chain
pub record IsQueue (cells : List Cell) (ends : Ends) : Type 0 where
  pub chain : List ℕ
  pub linked : IsChain cells ends chain
  pub apart : AreApart cells chain

-- all cells but these keep their neighbours, and every cell its number
pub record OnlyThese (old new : List Cell) (cs : List ℕ) : Type 0 where
  pub newer_stays : (c : ℕ) → times_in c cs ≡ 0 → newer_at new c ≡ newer_at old c
  pub older_stays : (c : ℕ) → times_in c cs ≡ 0 → older_at new c ≡ older_at old c
  pub serials_stay : (c : ℕ) → serial_at new c ≡ serial_at old c

-- the chain between the ends has one cell more, at the new end
abbrev pub IsAppended : List Cell → List Cell → Ends → Ends → ℕ → Type 0
IsAppended old new before after c =
    (cs : List ℕ) → IsChain old before cs → AreApart old cs → times_in c cs ≡ 0 → IsChain new after (cs ++ c ∷ []) × OnlyThese old new (cs ++ c ∷ [])

-- the chain between the ends has lost its first cell
abbrev pub LosesFirst : List Cell → List Cell → Ends → Ends → ℕ → Type 0
LosesFirst old new before after c =
    (cs : List ℕ) → IsChain old before (c ∷ cs) → AreApart old (c ∷ cs) → IsChain new after cs × OnlyThese old new (c ∷ cs)

-- the chain between the ends has lost its last cell
abbrev pub LosesLast : List Cell → List Cell → Ends → Ends → ℕ → Type 0
LosesLast old new before after c =
    (cs : List ℕ) → IsChain old before (cs ++ c ∷ []) → AreApart old (cs ++ c ∷ []) → IsChain new after cs × OnlyThese old new (cs ++ c ∷ [])

-- at most so many cells, from this one on along the newer neighbours
abbrev pub walk : (ℕ → Option ℕ) → ℕ → Option ℕ → List ℕ
walk newer zero start = []
walk newer (suc n) None = []
walk newer (suc n) (Some c) = c ∷ walk newer n (newer c)
