-- Names for records.
use Rattle.std.specs.Prelude.{ℕ, List, map}

-- where a record is, and the number that it has there
pub record Handle : Type 0 where
  pub key : ℕ
  pub serial : ℕ

abbrev pub numbers_of : List Handle → List ℕ
numbers_of hs = map (λ h. h.serial) hs
