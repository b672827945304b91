-- The numbers below a bound.
use Rattle.std.specs.Prelude.{◌≡◌, ℕ, nat_lt, if◌then◌else◌, List, length}
use Rattle.fj_rules.specs.Lists.{times_in}

-- the list has the numbers below n, each once, in some order, and nothing else
abbrev pub IsNumbersBelow : ℕ → List ℕ → Type 0
IsNumbersBelow n xs = (length xs ≡ n) × ((x : ℕ) → times_in x xs ≡ (if nat_lt x n then 1 else 0))
