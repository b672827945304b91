-- The scan for the first queue that is not empty.
use Rattle.fj_queues.specs.Queues.{all_in, first_filled, places_from}
use Rattle.fj_rules.specs.Lists.{is_empty}
use Rattle.std.specs.List.{range_with_len}
use Rattle.std.proofs.Common.{arith, cond, zero, suc, ◌+◌, ◌-◌, ◌%◌, Some, None, true, false, ◌∷◌, ℕ, ◌≡◌, ◌<◌, List, [], length, get_or, map, refl, ◌∙◌}
use Rattle.fj_rules.proofs.Lists.Scanning.{comes_to}
use Rattle.std.proofs.lemmas.List.Sums.{sum_by-cons}
use Rattle.std.proofs.lemmas.List.FromFn.{get_or-map-range_with_len, length-map-range_with_len}

-- the scan from place i on looks there first
pub scan_step : (lists : List (List ℕ)) (r count i : ℕ) → i < count
    → first_filled lists (map (λ k. (r + k) % count) (range_with_len i (count - i)))
    ≡ cond (is_empty (get_or lists ((r + i) % count) [])) (first_filled lists (map (λ k. (r + k) % count) (range_with_len (i + 1) (count - (i + 1))))) (Some ((r + i) % count))
scan_step lists r count i within =
    let more : count - i ≡ suc (count - (i + 1)) = omega arith in rw more refl

pub is_empty_no : (xs : List ℕ) → 0 < length xs → is_empty xs ≡ false
is_empty_no [] some = absurd (omega arith)
is_empty_no (x ∷ xs) some = refl

pub is_empty_yes : (xs : List ℕ) → length xs ≡ 0 → is_empty xs ≡ true
is_empty_yes [] none = refl
is_empty_yes (x ∷ xs) none = absurd (omega arith)

-- where the scan finds nothing, each of its places has an empty list
none_at : (lists : List (List ℕ)) (places : List ℕ) → first_filled lists places ≡ None
    → (i : ℕ) → i < length places → length (get_or lists (get_or places i 0) []) ≡ 0
none_at lists [] none i within = absurd (omega arith)
none_at lists (o ∷ places) none i within = go (none_at lists places) (get_or lists o []) refl none i within
  where
    go : (first_filled lists places ≡ None → (j : ℕ) → j < length places → length (get_or lists (get_or places j 0) []) ≡ 0)
        → (ts : List ℕ) → get_or lists o [] ≡ ts → cond (is_empty (get_or lists o [])) (first_filled lists places) (Some o) ≡ None
        → (i : ℕ) → i < length (o ∷ places) → length (get_or lists (get_or (o ∷ places) i 0) []) ≡ 0
    go others (t ∷ ts) is none i within = let found = rw is at none in absurd (cc)
    go others [] is none zero within = rw is refl
    go others [] is none (suc i) within = others (rw is at none) i (omega arith)

-- where the scan of all places finds nothing, all lists are empty
pub all_empty : (lists : List (List ℕ)) (r : ℕ) → first_filled lists (places_from (length lists) r) ≡ None
    → (o : ℕ) → o < length lists → length (get_or lists o []) ≡ 0
all_empty lists r none o within =
    let count = length lists in
    let i : ℕ = (o + (count - r % count)) % count in
    let low : i < count = omega arith in
    let is : get_or (places_from count r) i 0 ≡ o = get_or-map-range_with_len (λ k. (r + k) % count) 0 count i i 0 low (omega arith) ∙ comes_to count r o within in
    rw is at (none_at lists (places_from count r) none i (omega (arith, length-map-range_with_len (λ k. (r + k) % count) 0 count)))

-- lists without members have none together
pub none_in_empty : (lists : List (List ℕ)) → ((o : ℕ) → o < length lists → length (get_or lists o []) ≡ 0) → all_in lists ≡ 0
none_in_empty [] each = refl
none_in_empty (ts ∷ lists) each =
    let first = each 0 (omega arith) in
    let others = none_in_empty lists (λ o within. each (suc o) (omega arith)) in
    sum_by-cons length ts lists ∙ omega arith
