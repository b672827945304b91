-- An entry of a list after one was set.
use Rattle.std.proofs.Common.{ℕ, zero, suc, ◌≡◌, List, [], ◌∷◌, Option, Some, None, refl, ap, sym, arith}
use Rattle.std.specs.Prelude.{slice_get, slice_set}

-- it is the one that was set, or another, and was there before
pub data SetAt {X : Type 0} (xs : List X) (i k : ℕ) (x y : X) : Type 0 where
  Here : k ≡ i → y ≡ x → SetAt xs i k x y
  There : (k ≡ i → ⊥) → slice_get xs k ≡ Some y → SetAt xs i k x y

pub set_at : {X : Type 0} (xs : List X) (i k : ℕ) (x y : X) → slice_get (slice_set xs i x) k ≡ Some y → SetAt xs i k x y
set_at [] i k x y is = absurd (let no : ◌≡◌ {A = Option _} None (Some y) = is in cc)
set_at (z ∷ xs) zero zero x y is = Here refl (let same : x ≡ y = cc in sym same)
set_at (z ∷ xs) zero (suc k) x y is = There (λ same. absurd (omega (arith, same))) is
set_at (z ∷ xs) (suc i) zero x y is = There (λ same. absurd (omega (arith, same))) is
set_at (z ∷ xs) (suc i) (suc k) x y is = go (set_at xs i k x y is)
  where
    go : SetAt xs i k x y → SetAt (z ∷ xs) (suc i) (suc k) x y
    go (Here at same) = Here (ap suc at) same
    go (There other at) = There (λ same. other (omega (arith, same))) at
