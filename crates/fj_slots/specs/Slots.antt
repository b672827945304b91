-- A map as it is kept: a row of slots, each of which is the guess for some numbers, and the entries whose slot another one filled.
use Rattle.std.specs.Prelude.{ℕ, ◌≡◌, ◌==◌, ◌-◌, ◌<◌, ◌≤◌, ◌%◌, ◌++◌, true, if◌then◌else◌, List, length, Option, Some, None, replicate, slice_get}
use Rattle.fj_rules.specs.Lists.{is_in, or_else, times_in}
use Rattle.fj_slots.specs.Aside.{numbers, entry_in}

-- a list that goes on with one value up to a length
abbrev pub padded : {X : Type 0} → List X → ℕ → X → List X
padded xs count x = xs ++ replicate (count - length xs) x

module _ {T : Type 0} where
  -- what a slot has under a number: its entry confirms the guess
  abbrev pub in_slot : Option (Option (ℕ × T)) → ℕ → Option T
  in_slot None n = None
  in_slot (Some None) n = None
  in_slot (Some (Some x)) n = if x.0 == n then Some x.1 else None

  -- what the guess gives
  unfoldable pub guessed : List (Option (ℕ × T)) → ℕ → Option T
  guessed slots n = in_slot (slice_get slots (n % length slots)) n

  -- the entry under a number
  unfoldable pub entry_of : List (Option (ℕ × T)) → List (ℕ × T) → ℕ → Option T
  entry_of slots aside n = or_else (guessed slots n) (entry_in aside n)

  -- there is a slot, no number has two entries aside, and none of these has one in the slot of its guess
  pub record IsShelf (slots : List (Option (ℕ × T))) (aside : List (ℕ × T)) : Type 0 where
    pub some : 0 < length slots
    pub once : (n : ℕ) → times_in n (numbers aside) ≤ 1
    pub apart : (n : ℕ) → is_in n (numbers aside) ≡ true → guessed slots n ≡ None
