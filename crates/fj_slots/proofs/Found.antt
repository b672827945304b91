-- Where something stands in a list.
use Rattle.std.proofs.Common.{ℕ, ◌≡◌, ◌+◌, Bool, true, false, List, [], ◌∷◌, ◌++◌, length, Some, None, refl, ap, ◌∙◌, arith, slice_index_or, ◌<◌, length-append}
use Rattle.std.specs.Prelude.{◌==◌, if◌then◌else◌, is_some}
use Rattle.std.specs.List.{position_from, remove}
use Rattle.std.proofs.lemmas.Bool.{eqb-true}
use Rattle.fj_rules.specs.Lists.{is_in}
use Rattle.fj_slots.specs.Aside.{numbers, entry_in, Without}

pub not_found : {T : Type 0} (n : ℕ) (i : ℕ) (xs : List (ℕ × T)) → position_from (λ y. y.0 == n) i xs ≡ None → is_in n (numbers xs) ≡ false
not_found n i [] is = refl
not_found n i (x ∷ xs) is = go (x.0 == n) refl is (not_found n (i + 1) xs)
  where
    go : (b : Bool) → (x.0 == n) ≡ b → (if b then Some i else position_from (λ y. y.0 == n) (i + 1) xs) ≡ None
        → (position_from (λ y. y.0 == n) (i + 1) xs ≡ None → is_in n (numbers xs) ≡ false) → is_in n (numbers (x ∷ xs)) ≡ false
    go true at none rest = absurd cc
    go false at none rest = rw at (rest none)

-- an entry that has a place is one that is there
pub has_place : {T : Type 0} (n : ℕ) (i : ℕ) (xs : List (ℕ × T)) → is_some (position_from (λ y. y.0 == n) i xs) ≡ is_some (entry_in xs n)
unfolding entry_in
has_place n i [] = refl
has_place n i (x ∷ xs) = go (x.0 == n) (has_place n (i + 1) xs)
  where
    go : (b : Bool) → is_some (position_from (λ y. y.0 == n) (i + 1) xs) ≡ is_some (entry_in xs n)
        → is_some (if b then Some i else position_from (λ y. y.0 == n) (i + 1) xs) ≡ is_some (if b then Some x.1 else entry_in xs n)
    go true rest = refl
    go false rest = rest

record Found {T : Type 0} (xs : List (ℕ × T)) (n i k : ℕ) : Type 0 where
  before : List (ℕ × T)
  x : ℕ × T
  later : List (ℕ × T)
  parts : xs ≡ before ++ x ∷ later
  place : k ≡ i + length before
  number : x.0 ≡ n

found : {T : Type 0} (n i k : ℕ) (xs : List (ℕ × T)) → position_from (λ y. y.0 == n) i xs ≡ Some k → Found xs n i k
found n i k [] is = absurd cc
found n i k (x ∷ xs) is = go (x.0 == n) refl is (found n (i + 1) k xs)
  where
    go : (b : Bool) → (x.0 == n) ≡ b → (if b then Some i else position_from (λ y. y.0 == n) (i + 1) xs) ≡ Some k
        → (position_from (λ y. y.0 == n) (i + 1) xs ≡ Some k → Found xs n (i + 1) k) → Found (x ∷ xs) n i k
    go true at some rest = let same : i ≡ k = cc in record { before = []; x = x; later = xs; parts = refl; place = omega (arith, same); number = eqb-true x.0 n at }
    go false at some rest =
        let f = rest some in
        record { before = x ∷ f.before; x = f.x; later = f.later; parts = ap (λ ys. x ∷ ys) f.parts; place = omega (arith, f.place); number = f.number }

read_here : {X : Type 0} (before later : List X) (x d : X) → slice_index_or (before ++ x ∷ later) (length before) d ≡ x
read_here [] later x d = refl
read_here (y ∷ before) later x d = read_here before later x d

removed_here : {X : Type 0} (before later : List X) (x : X) → remove (before ++ x ∷ later) (length before) ≡ before ++ later
removed_here [] later x = refl
removed_here (y ∷ before) later x = ap (λ ys. y ∷ ys) (removed_here before later x)

pub taken_out : {T : Type 0} (n k : ℕ) (xs : List (ℕ × T)) (x : ℕ × T) → position_from (λ y. y.0 == n) 0 xs ≡ Some k → x ≡ slice_index_or xs k x → Without xs n x.1 (remove xs k)
taken_out {T} n k xs x is read = go (found n 0 k xs is)
  where
    go : Found xs n 0 k → Without xs n x.1 (remove xs k)
    go f =
        let place : k ≡ length f.before = omega (arith, f.place) in
        let same : x ≡ f.x = read ∙ rw (f.parts, place) (read_here f.before f.later f.x x) in
        let pair : (n, x.1) ≡ f.x = rw (same, ← f.number) refl in
        (f.before, f.later, rw pair f.parts, rw (f.parts, place) (removed_here f.before f.later f.x))

pub found_within : {T : Type 0} (n k : ℕ) (xs : List (ℕ × T)) → position_from (λ y. y.0 == n) 0 xs ≡ Some k → k < length xs
found_within n k xs is =
    let f = found n 0 k xs is in omega (arith, f.place, ap length f.parts, length-append f.before (f.x ∷ f.later))
