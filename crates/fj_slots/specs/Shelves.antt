-- Entries under numbers.
use Rattle.std.specs.Prelude.{ℕ, ◌≡◌, ◌<◌, ◌==◌, Bool, true, if◌then◌else◌, List, length, Option, Some, None, is_some}
use Rattle.fj_rules.specs.Lists.{is_in}
use Rattle.fj_slots.specs.Slots.{entry_of}

-- the entry under each number
abbrev pub Entries : Type 0 → Type 0
Entries T = ℕ → Option T

-- a map: how its entries are kept, of which contracts see only the entry under each number; and for how many there is room
pub record Shelved (T : Type 0) : Type 0 where
  pub slots : List (Option (ℕ × T))
  pub aside : List (ℕ × T)
  pub room : ℕ

module _ {T : Type 0} where
  -- the entry under each number of a map
  abbrev pub entries : Shelved T → Entries T
  entries shelf = entry_of shelf.slots shelf.aside

  -- whether there is an entry under the number
  abbrev pub is_there : Entries T → ℕ → Bool
  is_there all n = is_some (all n)

  abbrev pub no_entries : Entries T
  no_entries n = None

  -- the same with this entry
  abbrev pub with_entry : Entries T → ℕ → T → Entries T
  with_entry all n x = λ m. if n == m then Some x else all m

  -- the same without an entry under this number
  abbrev pub without_entry : Entries T → ℕ → Entries T
  without_entry all n = λ m. if n == m then None else all m

  -- the same without an entry under any of these numbers
  abbrev pub without_entries : Entries T → List ℕ → Entries T
  without_entries all ns = λ m. if is_in m ns then None else all m

  -- there are fewer entries than `room`: all are under numbers of a shorter list
  abbrev pub AreFewer : Entries T → ℕ → Type 0
  AreFewer all room = (ns : List ℕ) × (length ns < room) × ((m : ℕ) → is_there all m ≡ true → is_in m ns ≡ true)
