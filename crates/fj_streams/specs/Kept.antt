-- What a line buffer keeps.
use Rattle.std.specs.Prelude.{ℕ, List}

-- the number of whole lines, the present line so far, and the most bytes that it may have
pub record Kept : Type 0 where
  pub count : ℕ
  pub line : List ℕ
  pub longest : ℕ
