-- Sums that wrap.
use Rattle.std.specs.Prelude.{ℕ, List, ◌%◌, ◌^◌, sum}

-- the sum of numbers, which wraps
abbrev pub wrapped_sum : List ℕ → ℕ
wrapped_sum xs = sum xs % 2 ^ 64
