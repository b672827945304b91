-- Numbers and bodies side by side.
use Rattle.std.specs.Prelude.{zip, slice_get, option_map}
use Rattle.std.proofs.Common.{ℕ, zero, suc, ◌≡◌, List, [], ◌∷◌, ◌++◌, length, refl, ap, arith}
use Rattle.fj_slots.specs.Aside.{numbers}

module _ {B : Type 0} where
  pub length_zip : (ns : List ℕ) (bs : List B) → length bs ≡ length ns → length (zip ns bs) ≡ length ns
  length_zip [] bs even = refl
  length_zip (n ∷ ns) [] even = absurd (let never : ⊥ = omega arith in never)
  length_zip (n ∷ ns) (b ∷ bs) even = ap suc (length_zip ns bs (omega arith))

  pub zip_append : (ns : List ℕ) (bs : List B) (n : ℕ) (b : B) → length bs ≡ length ns → zip (ns ++ n ∷ []) (bs ++ b ∷ []) ≡ zip ns bs ++ (n, b) ∷ []
  zip_append [] [] n b even = refl
  zip_append [] (c ∷ bs) n b even = absurd (let never : ⊥ = omega arith in never)
  zip_append (m ∷ ns) [] n b even = absurd (let never : ⊥ = omega arith in never)
  zip_append (m ∷ ns) (c ∷ bs) n b even = ap (λ rows. (m, c) ∷ rows) (zip_append ns bs n b (omega arith))

  pub numbers_zip : (ns : List ℕ) (bs : List B) → length bs ≡ length ns → numbers (zip ns bs) ≡ ns
  numbers_zip [] bs even = refl
  numbers_zip (n ∷ ns) [] even = absurd (let never : ⊥ = omega arith in never)
  numbers_zip (n ∷ ns) (b ∷ bs) even = ap (λ rest. n ∷ rest) (numbers_zip ns bs (omega arith))

  -- the number of one of them
  pub number_at : (ns : List ℕ) (bs : List B) (i : ℕ) → length bs ≡ length ns → option_map (λ x. x.0) (slice_get (zip ns bs) i) ≡ slice_get ns i
  number_at [] bs i even = refl
  number_at (n ∷ ns) [] i even = absurd (let never : ⊥ = omega arith in never)
  number_at (n ∷ ns) (b ∷ bs) zero even = refl
  number_at (n ∷ ns) (b ∷ bs) (suc i) even = number_at ns bs i (omega arith)
