-- What is left of the list when it is closed up, and how many of its numbers are of kept records.
use Rattle.std.specs.List.{count_by}
use Rattle.std.proofs.Common.{arith, cond, suc, zero, Bool, true, false, ℕ, ◌≡◌, ◌≢◌, ◌+◌, ◌<◌, List, [], ◌∷◌, ◌++◌, length, filter, get_or, ap, sym, ◌∙◌, refl, inl, inr, Contains}
use Rattle.std.proofs.lemmas.Bool.{cond_both}
use Rattle.std.proofs.lemmas.List.{get_or_default}
use Rattle.std.proofs.lemmas.List.Elements.{All-filter}
use Rattle.std.proofs.lemmas.List.Kept.{AllPairs-filter}
use Rattle.std.proofs.lemmas.List.Sums.{sum_by-cons}
use Rattle.slab.proofs.SlabLemmas.{Contains-cons, Contains-cons_cases}
use Rattle.fj_tree.specs.Kept.{Pairs, IsRising, IsAbove, IsListed}

-- ---- what is left

-- the numbers that are left rise
pub rising_left : (p : ℕ × ℕ → Bool) (l : Pairs) → IsRising l → IsRising (filter p l)
rising_left p l rising i j before within =
    AllPairs-filter (λ (x y : ℕ × ℕ). x.0 < y.0) p l (λ a b d lt inside. rw (get_or_default l a d (0, 0) (omega (arith, lt, inside)), get_or_default l b d (0, 0) inside) (rising a b lt inside)) i j (0, 0) before within

-- and are as small as they were
pub above_left : (p : ℕ × ℕ → Bool) (l : Pairs) (n : ℕ) → IsAbove l n → IsAbove (filter p l) n
above_left p l n above i within = All-filter p (λ (x : ℕ × ℕ). x.0 < n) l (λ k d lt. rw (get_or_default l k d (0, 0) lt) (above k lt)) i (0, 0) within

module _ {X : Type 0} (p : X → Bool) where
  -- what passes is left
  contained_left : (x : X) (xs : List X) → p x ≡ true → Contains xs x → Contains (filter p xs) x
  contained_left x [] passes there = absurd (omega (arith, there.1))
  contained_left x (y ∷ ys) passes there = elim (Contains-cons_cases y x ys there) [
    | inl same ↦ let here : p y ≡ true = ap p same ∙ passes in rw here (0, omega arith, same)
    | inr later ↦
        let rest = contained_left x ys passes later in
        cond_both (p y) (y ∷ filter p ys) (filter p ys) (λ zs. Contains zs x) (λ _. Contains-cons y x (filter p ys) rest) (λ _. rest)
  ]

-- a pair that passes is listed still
pub listed_left : (p : ℕ × ℕ → Bool) (l : Pairs) (n key : ℕ) → p (n, key) ≡ true → IsListed l n key → IsListed (filter p l) n key
listed_left p l n key passes listed =
    let there = contained_left p (n, key) l passes (listed.place, listed.in_range, get_or_default l listed.place (n, key) (0, 0) listed.in_range ∙ listed.is) in
    record { place = there.0; in_range = there.1; is = get_or_default (filter p l) there.0 (0, 0) (n, key) there.1 ∙ there.2 }

-- ---- how many pass

module _ {X : Type 0} where
  first_counted : (p : X → Bool) (x : X) (xs : List X) → count_by p (x ∷ xs) ≡ cond (p x) 1 0 + count_by p xs
  first_counted p x xs = sum_by-cons (λ y. cond (p y) 1 0) x xs

  -- as many pass two tests that agree on each
  pub count_same : (p q : X → Bool) (d : X) (xs : List X) → ((k : ℕ) → k < length xs → p (get_or xs k d) ≡ q (get_or xs k d)) → count_by p xs ≡ count_by q xs
  count_same p q d [] same = refl
  count_same p q d (x ∷ xs) same =
      let rest = count_same p q d xs (λ k within. same (suc k) (omega arith)) in
      first_counted p x xs ∙ ap (λ (b : Bool). cond b 1 0 + count_by p xs) (same 0 (omega arith)) ∙ ap (λ (n : ℕ). cond (q x) 1 0 + n) rest ∙ sym (first_counted q x xs)

  -- one fewer, where they differ at one place
  pub count_one_fewer : (p q : X → Bool) (d : X) (xs : List X) (i : ℕ) → i < length xs → p (get_or xs i d) ≡ true → q (get_or xs i d) ≡ false
      → ((k : ℕ) → k < length xs → k ≢ i → q (get_or xs k d) ≡ p (get_or xs k d)) → count_by q xs + 1 ≡ count_by p xs
  count_one_fewer p q d [] i within passes fails same = absurd (omega arith)
  count_one_fewer p q d (x ∷ xs) zero within passes fails same =
      let rest = count_same q p d xs (λ k inside. same (suc k) (omega arith) (omega arith)) in
      let before : count_by p (x ∷ xs) ≡ 1 + count_by p xs = first_counted p x xs ∙ ap (λ (b : Bool). cond b 1 0 + count_by p xs) passes in
      let after : count_by q (x ∷ xs) ≡ 0 + count_by q xs = first_counted q x xs ∙ ap (λ (b : Bool). cond b 1 0 + count_by q xs) fails in
      omega (arith, rest, before, after)
  count_one_fewer p q d (x ∷ xs) (suc i) within passes fails same =
      let rest = count_one_fewer p q d xs i (omega arith) passes fails (λ k inside differs. same (suc k) (omega arith) (λ alike. differs (omega (arith, alike)))) in
      let before = first_counted p x xs in
      let after : count_by q (x ∷ xs) ≡ cond (p x) 1 0 + count_by q xs = first_counted q x xs ∙ ap (λ (b : Bool). cond b 1 0 + count_by q xs) (same 0 (omega arith) (omega arith)) in
      omega (arith, rest, before, after)

  -- as many pass among those that pass
  pub count_left : (p : X → Bool) (xs : List X) → count_by p (filter p xs) ≡ count_by p xs
  count_left p [] = refl
  count_left p (x ∷ xs) = go (count_left p xs) (p x) refl
    where
      go : count_by p (filter p xs) ≡ count_by p xs → (b : Bool) → p x ≡ b → count_by p (cond (p x) (x ∷ filter p xs) (filter p xs)) ≡ count_by p (x ∷ xs)
      go rest true is =
          ap (λ (b : Bool). count_by p (cond b (x ∷ filter p xs) (filter p xs))) is ∙ first_counted p x (filter p xs) ∙ ap (λ (n : ℕ). cond (p x) 1 0 + n) rest ∙ sym (first_counted p x xs)
      go rest false is =
          let skipped = ap (λ (b : Bool). count_by p (cond b (x ∷ filter p xs) (filter p xs))) is in
          omega (arith, skipped, rest, first_counted p x xs, ap {B = ℕ} (λ (b : Bool). cond b 1 0) is)

  -- one more where one that passes is put behind them
  pub count_push : (p : X → Bool) (xs : List X) (x : X) → p x ≡ true → count_by p (xs ++ x ∷ []) ≡ count_by p xs + 1
  count_push p [] x passes = rw passes refl
  count_push p (y ∷ ys) x passes = omega (arith, first_counted p y (ys ++ x ∷ []), first_counted p y ys, count_push p ys x passes)
