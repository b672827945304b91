-- Entries in a list, each under its number.
use Rattle.std.specs.Prelude.{ℕ, ◌≡◌, ◌==◌, false, if◌then◌else◌, List, [], ◌∷◌, ◌++◌, Option, Some, None, MatchOption, map}
use Rattle.fj_rules.specs.Lists.{is_in}

-- the entries, and for how many there is room
pub record Listed (T : Type 0) : Type 0 where
  pub items : List (ℕ × T)
  pub room : ℕ

module _ {T : Type 0} where
  -- the numbers
  abbrev pub numbers : List (ℕ × T) → List ℕ
  numbers items = map (λ x. x.0) items

  -- the entry is one of them under this number, and the others are left
  abbrev pub Without : List (ℕ × T) → ℕ → T → List (ℕ × T) → Type 0
  Without items n x rest = (before later : List (ℕ × T)) × (items ≡ before ++ (n, x) ∷ later) × (rest ≡ before ++ later)

  -- an entry under a number is taken out; or there is none, and nothing has changed
  abbrev pub Takes : Listed T → ℕ → Option T → Listed T → Type 0
  Takes old n result new = MatchOption result ((new ≡ old) × (is_in n (numbers old.items) ≡ false)) (λ x. Without old.items n x new.items)

  -- the first entry under a number
  unfoldable pub entry_in : List (ℕ × T) → ℕ → Option T
  entry_in [] n = None
  entry_in (x ∷ items) n = if x.0 == n then Some x.1 else entry_in items n
