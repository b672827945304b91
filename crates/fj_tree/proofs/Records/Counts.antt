-- How many slots pass a test.
use Rattle.std.specs.List.{count_by}
use Rattle.std.proofs.Common.{arith, cond, suc, Bool, true, false, true≢false, Option, None, ℕ, ◌≡◌, ◌≢◌, ◌+◌, ◌<◌, ◌≤◌, List, [], ◌∷◌, length, get_or, ap, sym, ◌∙◌, refl, inl, inr}
use Rattle.std.proofs.Math.ListN.{set}
use Rattle.std.proofs.lemmas.Bool.{cases_eq, cases_lt}
use Rattle.std.proofs.lemmas.List.{get_or-set_same, get_or-set_other, get_or_past}
use Rattle.std.proofs.lemmas.List.Sums.{sum_by-cons, sum_by-set, get_or-le-sum_by}

module _ {A : Type 0} where
  first_counted : (p : Option A → Bool) (x : Option A) (xs : List (Option A)) → count_by p (x ∷ xs) ≡ cond (p x) 1 0 + count_by p xs
  first_counted p x xs = sum_by-cons (λ o. cond (p o) 1 0) x xs

  -- lists whose slots pass alike at each key have as many that pass, where an empty slot does not pass
  pub count_alike : (p q : Option A → Bool) (xs ys : List (Option A)) → p None ≡ false → q None ≡ false → ((k : ℕ) → p (get_or xs k None) ≡ q (get_or ys k None)) → count_by p xs ≡ count_by q ys
  count_alike p q [] [] none_p none_q alike = refl
  count_alike p q [] (y ∷ ys) none_p none_q alike =
      let rest = count_alike p q [] ys none_p none_q (λ k. none_p ∙ sym none_p ∙ alike (suc k)) in
      let here : q y ≡ false = sym (alike 0) ∙ none_p in
      rest ∙ sym (first_counted q y ys ∙ ap (λ (b : Bool). cond b 1 0 + count_by q ys) here ∙ omega arith)
  count_alike p q (x ∷ xs) [] none_p none_q alike =
      let rest = count_alike p q xs [] none_p none_q (λ k. alike (suc k)) in
      let here : p x ≡ false = alike 0 ∙ none_q in
      first_counted p x xs ∙ ap (λ (b : Bool). cond b 1 0 + count_by p xs) here ∙ omega (arith, rest)
  count_alike p q (x ∷ xs) (y ∷ ys) none_p none_q alike =
      let rest = count_alike p q xs ys none_p none_q (λ k. alike (suc k)) in
      first_counted p x xs ∙ ap (λ (b : Bool). cond b 1 0 + count_by p xs) (alike 0) ∙ ap (λ (n : ℕ). cond (q y) 1 0 + n) rest ∙ sym (first_counted q y ys)

  -- none passes
  pub count_none : (p : Option A → Bool) (xs : List (Option A)) → p None ≡ false → ((k : ℕ) → p (get_or xs k None) ≡ false) → count_by p xs ≡ 0
  count_none p xs none fails = count_alike p p xs [] none none (λ k. fails k ∙ sym none)

  -- a slot that passes is counted
  pub counted_one : (p : Option A → Bool) (xs : List (Option A)) (key : ℕ) → p None ≡ false → p (get_or xs key None) ≡ true → 1 ≤ count_by p xs
  counted_one p xs key none passes = elim (cases_lt key (length xs)) [
    | inl within ↦ let some = get_or-le-sum_by (λ o. cond (p o) 1 0) xs key None within in omega (arith, some, ap {B = ℕ} (λ (b : Bool). cond b 1 0) passes)
    | inr past ↦ absurd (true≢false (sym passes ∙ ap p (get_or_past xs key None past) ∙ none))
  ]

  -- one slot was empty and is filled, and the others pass as they did
  pub count_filled : (p : Option A → Bool) (xs ys : List (Option A)) (key : ℕ) → p None ≡ false → get_or xs key None ≡ None → key < length ys
      → ((k : ℕ) → k ≢ key → p (get_or ys k None) ≡ p (get_or xs k None)) → count_by p ys ≡ count_by p xs + cond (p (get_or ys key None)) 1 0
  count_filled p xs ys key none vacant within alike =
      let emptied = sum_by-set (λ o. cond (p o) 1 0) ys key None None within in
      let same = count_alike p p (set ys key None) xs none none pointwise in
      omega (arith, emptied, same, ap {B = ℕ} (λ (b : Bool). cond b 1 0) none)
    where
      pointwise : (k : ℕ) → p (get_or (set ys key None) k None) ≡ p (get_or xs k None)
      pointwise k = elim (cases_eq k key) [
        | inl same ↦ ap (λ (i : ℕ). p (get_or (set ys key None) i None)) same ∙ ap p (get_or-set_same ys key None None within ∙ sym vacant) ∙ sym (ap (λ (i : ℕ). p (get_or xs i None)) same)
        | inr differs ↦ ap p (get_or-set_other ys key k None None differs) ∙ alike k differs
      ]
