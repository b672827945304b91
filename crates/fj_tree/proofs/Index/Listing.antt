-- What a search finds among rising numbers, and what one number more leaves.
use Rattle.std.proofs.Common.{arith, ℕ, ◌≡◌, ◌+◌, ◌++◌, ◌∷◌, [], length, sym, ◌∙◌, ap, refl, inl, inr}
use Rattle.std.proofs.lemmas.Bool.{cases_eq, cases_lt}
use Rattle.std.proofs.lemmas.List.{get_or_append_left, get_or_push, length_push}
use Rattle.fj_tree.specs.Kept.{Pairs, number_at, key_at, IsRising, IsAbove, IsAbsent, IsAt, IsListed}

-- no pair of an absent number is listed
pub none_listed : (l : Pairs) (n key : ℕ) → IsAbsent l n → IsListed l n key → ⊥
none_listed l n key absent listed = absent listed.place listed.in_range (ap (λ (pair : ℕ × ℕ). pair.0) listed.is)

module _ (l : Pairs) (n key : ℕ) where
  -- the new pair is listed
  pub listed_new : IsListed (l ++ (n, key) ∷ []) n key
  listed_new = record { place = length l; in_range = omega (arith, length_push l (n, key)); is = get_or_push l (n, key) (0, 0) (length l) refl }

  -- and so are those that were
  pub listed_still : (m q : ℕ) → IsListed l m q → IsListed (l ++ (n, key) ∷ []) m q
  listed_still m q listed = record {
    place = listed.place;
    in_range = omega (arith, listed.in_range, length_push l (n, key));
    is = get_or_append_left l ((n, key) ∷ []) (0, 0) listed.place listed.in_range ∙ listed.is;
  }

-- and all numbers are below the next one
pub above_new : (l : Pairs) (n key : ℕ) → IsAbove l n → IsAbove (l ++ (n, key) ∷ []) (n + 1)
above_new l n key above i within = elim (cases_lt i (length l)) [
  | inl before ↦ let same = get_or_append_left l ((n, key) ∷ []) (0, 0) i before in omega (arith, above i before, ap (λ (pair : ℕ × ℕ). pair.0) same)
  | inr last ↦ let new = get_or_push l (n, key) (0, 0) i (omega (arith, within, last, length_push l (n, key))) in omega (arith, ap (λ (pair : ℕ × ℕ). pair.0) new)
]

-- it is listed there alone
pub listed_alone : (l : Pairs) → IsRising l → (i n other : ℕ) → IsAt l n i → IsListed l n other → other ≡ key_at l i
listed_alone l rising i n other at listed = elim (cases_eq listed.place i) [
  | inl same ↦ sym (ap (λ (pair : ℕ × ℕ). pair.1) listed.is) ∙ ap (key_at l) same
  | inr differs ↦
      let number : number_at l listed.place ≡ n = ap (λ (pair : ℕ × ℕ). pair.0) listed.is in
      elim (cases_lt listed.place i) [
        | inl before ↦ absurd (omega (arith, rising listed.place i before at.in_range, number, at.number))
        | inr after ↦ absurd (omega (arith, rising i listed.place (omega (arith, after, differs)) listed.in_range, number, at.number))
      ]
]
