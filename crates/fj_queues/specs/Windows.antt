-- A list that has room for so many.
use Rattle.std.specs.Prelude.{ℕ, List}

pub record Listed (A : Type 0) : Type 0 where
  pub list : List A
  pub room : ℕ
