-- Which numbers a list has, and how often.
use Rattle.std.proofs.Common.{ℕ, ◌≡◌, ◌+◌, ◌≤◌, Bool, true, false, cond, not, ◌&&◌, ◌||◌, List, [], ◌∷◌, ◌++◌, Some, refl, ap, sym, ◌∙◌, arith, zero-add, zero, suc, ⊎_elim, ◌≢◌, length}
use Rattle.std.specs.Prelude.{◌==◌, slice_get}
use Rattle.std.specs.List.{filter}
use Rattle.std.proofs.lemmas.List.Elements.{filter-append}
use Rattle.std.proofs.lemmas.List.Sums.{sum_by-append}
use Rattle.std.proofs.lemmas.Bool.{eqb-true, eq-eqb, or_parts, or_cases, or_right, ne_eqb, cases_eq}
use Rattle.fj_rules.specs.Lists.{is_in, without, times_in}

pub is_in_append : (t : ℕ) (xs ys : List ℕ) → is_in t (xs ++ ys) ≡ (is_in t xs || is_in t ys)
is_in_append t [] ys = refl
is_in_append t (x ∷ xs) ys = elim (x == t) as (λ b. (b || is_in t (xs ++ ys)) ≡ ((b || is_in t xs) || is_in t ys)) [ true ↦ refl | false ↦ is_in_append t xs ys ]

pub times_in_append : (t : ℕ) (xs ys : List ℕ) → times_in t (xs ++ ys) ≡ times_in t xs + times_in t ys
times_in_append t xs ys = sum_by-append (λ u. cond (u == t) 1 0) xs ys

pub times_in_cons : (t x : ℕ) (xs : List ℕ) → times_in t (x ∷ xs) ≡ cond (x == t) 1 0 + times_in t xs
times_in_cons t x xs = times_in_append t (x ∷ []) xs ∙ ap (λ n. n + times_in t xs) (zero-add (cond (x == t) 1 0))

-- a number that is not in the list stands there zero times
pub times_in_none : (t : ℕ) (xs : List ℕ) → is_in t xs ≡ false → times_in t xs ≡ 0
times_in_none t [] absent = refl
times_in_none t (x ∷ xs) absent =
    let parts = or_parts (x == t) (is_in t xs) absent in
    times_in_cons t x xs ∙ rw (parts.0) (omega (arith, times_in_none t xs parts.1))

-- what is kept of a number by a filter
pub is_in_filter : (p : ℕ → Bool) (t : ℕ) (xs : List ℕ) → is_in t (filter p xs) ≡ (is_in t xs && p t)
is_in_filter p t [] = refl
is_in_filter p t (x ∷ xs) = by_tests (is_in_filter p t xs) (x == t) (p x) refl refl
  where
    by_tests : is_in t (filter p xs) ≡ (is_in t xs && p t) → (b c : Bool) → (x == t) ≡ b → p x ≡ c → is_in t (cond c (x ∷ filter p xs) (filter p xs)) ≡ ((b || is_in t xs) && p t)
    by_tests rest true true is passes = rw (is, ap p (sym (eqb-true x t is)) ∙ passes) refl
    by_tests rest true false is passes = rest ∙ rw (ap p (sym (eqb-true x t is)) ∙ passes) (elim (is_in t xs) as (λ b. (b && false) ≡ false) [ true ↦ refl | false ↦ refl ])
    by_tests rest false true is passes = rw is rest
    by_tests rest false false is passes = rest

pub times_in_filter : (p : ℕ → Bool) (t : ℕ) (xs : List ℕ) → times_in t (filter p xs) ≡ cond (p t) (times_in t xs) 0
times_in_filter p t [] = elim (p t) as (λ b. ◌≡◌ {A = ℕ} 0 (cond b 0 0)) [ true ↦ refl | false ↦ refl ]
times_in_filter p t (x ∷ xs) = by_tests (times_in_filter p t xs) (x == t) (p x) refl refl
  where
    by_tests : times_in t (filter p xs) ≡ cond (p t) (times_in t xs) 0 → (b c : Bool) → (x == t) ≡ b → p x ≡ c → times_in t (cond c (x ∷ filter p xs) (filter p xs)) ≡ cond (p t) (times_in t (x ∷ xs)) 0
    by_tests rest true true is passes =
        let pt : p t ≡ true = ap p (sym (eqb-true x t is)) ∙ passes in
        rw pt (times_in_cons t x (filter p xs) ∙ ap (λ n. cond (x == t) 1 0 + n) (rest ∙ rw pt refl) ∙ sym (times_in_cons t x xs))
    by_tests rest true false is passes =
        let pt : p t ≡ false = ap p (sym (eqb-true x t is)) ∙ passes in
        rw pt (rest ∙ rw pt refl)
    by_tests rest false true is passes =
        times_in_cons t x (filter p xs) ∙ ap (λ b. cond b 1 0 + times_in t (filter p xs)) is ∙ zero-add (times_in t (filter p xs)) ∙ rest ∙ ap (λ n. cond (p t) n 0) (without_it is)
      where
        without_it : (x == t) ≡ false → times_in t xs ≡ times_in t (x ∷ xs)
        without_it is = sym (times_in_cons t x xs ∙ ap (λ b. cond b 1 0 + times_in t xs) is ∙ zero-add (times_in t xs))
    by_tests rest false false is passes = rest ∙ ap (λ n. cond (p t) n 0) (sym (times_in_cons t x xs ∙ ap (λ b. cond b 1 0 + times_in t xs) is ∙ zero-add (times_in t xs)))

-- two tests that agree on the members keep the same
pub filter_agree_in : (p q : ℕ → Bool) (xs : List ℕ) → ((x : ℕ) → is_in x xs ≡ true → p x ≡ q x) → filter p xs ≡ filter q xs
filter_agree_in p q [] agree = refl
filter_agree_in p q (x ∷ xs) agree =
    rw (agree x (rw (eq-eqb x x refl) refl), filter_agree_in p q xs (λ y there. agree y (rw there (elim (x == y) as (λ b. (b || true) ≡ true) [ true ↦ refl | false ↦ refl ])))) refl

pub first_is_in : (t : ℕ) (xs : List ℕ) → slice_get xs 0 ≡ Some t → is_in t xs ≡ true
first_is_in t [] is = absurd cc
first_is_in t (x ∷ xs) is = rw (eq-eqb x t cc) refl

pub get_is_in : (t : ℕ) (xs : List ℕ) (k : ℕ) → slice_get xs k ≡ Some t → is_in t xs ≡ true
get_is_in t [] k is = absurd cc
get_is_in t (x ∷ xs) zero is = rw (eq-eqb x t cc) refl
get_is_in t (x ∷ xs) (suc k) is = or_right (x == t) (is_in t xs) (get_is_in t xs k is)

-- a number that is there is there at least once
pub times_in_some : (t : ℕ) (xs : List ℕ) → is_in t xs ≡ true → 1 ≤ times_in t xs
times_in_some t [] there = absurd cc
times_in_some t (x ∷ xs) there =
    ⊎_elim
    (λ here. omega (arith, times_in_cons t x xs ∙ ap (λ b. cond b 1 0 + times_in t xs) here))
    (λ later. omega (arith, times_in_cons t x xs, times_in_some t xs later))
    (or_cases (x == t) (is_in t xs) there)

-- what a list has lost without a number is how often it was there
pub length_without : (m : ℕ) (ts : List ℕ) → length ts ≡ length (without ts (m ∷ [])) + times_in m ts
length_without m [] = refl
length_without m (t ∷ ts) = ⊎_elim (here (length_without m ts)) (other (length_without m ts)) (cases_eq m t)
  where
    here : length ts ≡ length (without ts (m ∷ [])) + times_in m ts → m ≡ t → suc (length ts) ≡ length (without (t ∷ ts) (m ∷ [])) + times_in m (t ∷ ts)
    here rest same =
        let one : times_in m (t ∷ ts) ≡ 1 + times_in m ts = times_in_cons m t ts ∙ rw (eq-eqb t m (sym same)) refl in
        rw (eq-eqb m t same) (omega (arith, one, rest))

    other : length ts ≡ length (without ts (m ∷ [])) + times_in m ts → m ≢ t → suc (length ts) ≡ length (without (t ∷ ts) (m ∷ [])) + times_in m (t ∷ ts)
    other rest apart =
        let none : times_in m (t ∷ ts) ≡ times_in m ts = times_in_cons m t ts ∙ rw (ne_eqb t m (λ is. apart (sym is))) (omega arith) in
        rw (ne_eqb m t apart) (omega (arith, none, rest))

filter_true : (xs : List ℕ) → filter (λ _. true) xs ≡ xs
filter_true [] = refl
filter_true (x ∷ xs) = ap (λ ys. x ∷ ys) (filter_true xs)

filter_false : (xs : List ℕ) → filter (λ _. false) xs ≡ []
filter_false [] = refl
filter_false (x ∷ xs) = filter_false xs

pub filter_all : (p : ℕ → Bool) (xs : List ℕ) → ((x : ℕ) → is_in x xs ≡ true → p x ≡ true) → filter p xs ≡ xs
filter_all p xs all = filter_agree_in p (λ _. true) xs all ∙ filter_true xs

pub filter_none : (p : ℕ → Bool) (xs : List ℕ) → ((x : ℕ) → is_in x xs ≡ true → p x ≡ false) → filter p xs ≡ []
filter_none p xs none = filter_agree_in p (λ _. false) xs none ∙ filter_false xs

-- no number stands twice in the list
abbrev pub Once : List ℕ → Type 0
Once xs = (t : ℕ) → times_in t xs ≤ 1

pub once_more : (xs : List ℕ) (u : ℕ) → is_in u xs ≡ false → Once xs → Once (xs ++ u ∷ [])
once_more xs u absent once t = go (u == t) refl
  where
    go : (b : Bool) → (u == t) ≡ b → times_in t (xs ++ u ∷ []) ≤ 1
    go true is =
        let here : times_in t xs ≡ 0 = times_in_none t xs (rw (eqb-true u t is) at absent) in
        omega (arith, times_in_append t xs (u ∷ []), times_in_cons t u [] ∙ ap (λ b. cond b 1 0 + 0) is)
    go false is = omega (arith, once t, times_in_append t xs (u ∷ []), times_in_cons t u [] ∙ ap (λ b. cond b 1 0 + 0) is)

-- of two joined lists with no number twice, what the first has not is the second
pub without_front : (xs ys : List ℕ) → Once (xs ++ ys) → without (xs ++ ys) xs ≡ ys
without_front xs ys once =
    filter-append (λ t. not (is_in t xs)) xs ys
    ∙ ap (λ zs. zs ++ without ys xs) (filter_none (λ t. not (is_in t xs)) xs (λ x there. ap not there))
    ∙ filter_all (λ t. not (is_in t xs)) ys (λ x there. ap not (apart x there (is_in x xs) refl))
  where
    apart : (x : ℕ) → is_in x ys ≡ true → (b : Bool) → is_in x xs ≡ b → b ≡ false
    apart x there true here = absurd (omega (arith, once x, times_in_append x xs ys, times_in_some x xs here, times_in_some x ys there))
    apart x there false here = refl

pub first_then : (t : ℕ) (xs : List ℕ) → slice_get xs 0 ≡ Some t → (rest : List ℕ) × (xs ≡ t ∷ rest)
first_then t [] is = absurd cc
first_then t (x ∷ xs) is = (xs, ap (λ y. y ∷ xs) cc)
