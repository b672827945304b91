-- Task numbers in a list, each marked under itself.
use Rattle.std.specs.Prelude.{ℕ, ◌≡◌, List}
use Rattle.fj_rules.specs.Lists.{is_in}
use Rattle.fj_slots.specs.Shelves.{Entries, is_there}

-- the numbers, the oldest first, and for how many there is room
pub record SerialList : Type 0 where
  pub items : List ℕ
  pub room : ℕ

-- exactly the members have a mark
abbrev pub AreMarked : {T : Type 0} → Entries T → List ℕ → Type 0
AreMarked marks numbers = (t : ℕ) → is_there marks t ≡ is_in t numbers
