-- Bytes up to a separator.
use Rattle.std.proofs.Common.{ℕ, zero, suc, ◌≡◌, ◌≢◌, ◌+◌, ◌<◌, ◌≤◌, List, [], ◌∷◌, ◌++◌, length, take, drop, slice_index, refl, ap, arith}
use Rattle.std.proofs.Math.Numerals.{suc-eq-add-one}
use Rattle.std.specs.Str.Parse.{AllDigits}
use Rattle.std.proofs.lemmas.Str.Parse.{digit_at}
use Rattle.fj_trees.specs.Separators.{Without}

without_tail : (s x : ℕ) (xs : List ℕ) → Without s (x ∷ xs) → Without s xs
without_tail s x xs w = λ i lt. w (suc i) (omega (arith, lt))

-- what stands before the first separator, and behind it, is determined
pub split_same : (s : ℕ) (xs ys u v : List ℕ) → Without s xs → Without s ys → xs ++ s ∷ u ≡ ys ++ s ∷ v → (xs ≡ ys) × (u ≡ v)
split_same s [] [] u v w z e = (refl, cc)
split_same s [] (y ∷ ys) u v w z e = absurd (z 0 (omega arith) cc)
split_same s (x ∷ xs) [] u v w z e = absurd (w 0 (omega arith) cc)
split_same s (x ∷ xs) (y ∷ ys) u v w z e =
    let head : x ≡ y = cc in
    let rest : xs ++ s ∷ u ≡ ys ++ s ∷ v = cc in
    let same = split_same s xs ys u v (without_tail s x xs w) (without_tail s y ys z) rest in
    (rw (head, same.0) refl, same.1)

-- the first separator stands behind bytes that are none
pub split_behind : (s : ℕ) (xs u ys v : List ℕ) → Without s xs → xs ++ u ≡ ys ++ s ∷ v → length xs ≤ length ys
split_behind s [] u ys v w e = omega arith
split_behind s (x ∷ xs) u [] v w e = absurd (w 0 (omega arith) cc)
split_behind s (x ∷ xs) u (y ∷ ys) v w e =
    let rest : xs ++ u ≡ ys ++ s ∷ v = cc in
    let less = split_behind s xs u ys v (without_tail s x xs w) rest in
    omega arith

-- bytes without a separator are not cut
pub uncut : (s : ℕ) (xs ys v : List ℕ) → Without s xs → xs ≢ ys ++ s ∷ v
uncut s [] [] v w e = absurd cc
uncut s [] (y ∷ ys) v w e = absurd cc
uncut s (x ∷ xs) [] v w e = absurd (w 0 (omega arith) cc)
uncut s (x ∷ xs) (y ∷ ys) v w e =
    let rest : xs ≡ ys ++ s ∷ v = cc in
    uncut s xs ys v (without_tail s x xs w) rest

-- a list, cut at a place
cut_before : (s : ℕ) (xs : List ℕ) (i : ℕ) → i < length xs → slice_index xs i ≡ s → xs ≡ take i xs ++ s ∷ drop (suc i) xs
cut_before s [] i lt e = absurd (omega (arith, lt))
cut_before s (x ∷ xs) zero lt e = rw (← e) refl
cut_before s (x ∷ xs) (suc i) lt e = ap (λ l. x ∷ l) (cut_before s xs i (omega (arith, lt)) e)

pub cut_at : (s : ℕ) (xs : List ℕ) (i : ℕ) → i < length xs → slice_index xs i ≡ s → xs ≡ take i xs ++ s ∷ drop (i + 1) xs
cut_at s xs i lt e = rw (← suc-eq-add-one i) (cut_before s xs i lt e)

-- digits are above the separators
pub digits_without : (s : ℕ) (ds : List ℕ) → s < 48 → AllDigits 10 ds → Without s ds
digits_without s ds low all = λ i lt e. let digit = digit_at ds i all lt in omega (arith, digit, e)
