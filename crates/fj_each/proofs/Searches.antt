-- The first item that is wanted, of items in two parts.
use Rattle.std.proofs.Common.{◌≡◌, ℕ, ◌+◌, ◌-◌, ◌<◌, ◌≤◌, Bool, true, false, cond, Option, None, Some, List, [], ◌∷◌, ◌++◌, length, slice_range, take, drop, get_or, arith, refl, sym, ap, ◌∙◌}
use Rattle.std.specs.List.{position, position_from}
use Rattle.std.specs.Prelude.{is_some}
use Rattle.std.specs.Option.{option_or}
use Rattle.std.proofs.lemmas.List.{drop_more, length-drop, length-take}
use Rattle.fj_each.specs.Firsts.{first_in}
use Rattle.std.proofs.lemmas.Bool.{false≢true}
use Rattle.std.proofs.lemmas.Iterator.Adapters.{position_from-zero}
use Rattle.std.proofs.Math.Seq.{take-length}
use Rattle.fj_each.proofs.Rows.{in_a_row}

pick_append : (b : Bool) (i : ℕ) (p q r : Option ℕ) → q ≡ option_or p r → cond b (Some i) q ≡ option_or (cond b (Some i) p) r
pick_append true i p q r e = refl
pick_append false i p q r e = e

position-append : {T : Type 0} (t : T → Bool) (i : ℕ) (xs ys : List T) → position_from t i (xs ++ ys) ≡ option_or (position_from t i xs) (position_from t (i + length xs) ys)
position-append t i [] ys =
    let place : i ≡ i + 0 = omega arith in
    ap (λ n. position_from t n ys) place
position-append t i (x ∷ xs) ys =
    let place : i + 1 + length xs ≡ i + length (x ∷ xs) = omega arith in
    pick_append (t x) i (position_from t (i + 1) xs) (position_from t (i + 1) (xs ++ ys)) (position_from t (i + length (x ∷ xs)) ys)
    (position-append t (i + 1) xs ys ∙ ap (λ n. option_or (position_from t (i + 1) xs) (position_from t n ys)) place)

-- in two parts that meet
pub first_halves : {T : Type 0} (wants : T → Bool) (items : List T) (i j k : ℕ) → i ≤ j → j ≤ k → k ≤ length items → first_in wants items i k ≡ option_or (first_in wants items i j) (first_in wants items j k)
first_halves wants items i j k p q r =
    let count : i + length (slice_range items i j) ≡ j = omega (arith, length-take (j - i) (drop i items), length-drop i items) in
    ap (position_from wants i) (sym (in_a_row items i j k p q))
    ∙ position-append wants i (slice_range items i j) (slice_range items j k)
    ∙ ap (λ n. option_or (first_in wants items i j) (position_from wants n (slice_range items j k))) count

position_same : {T : Type 0} (t u : T → Bool) (i : ℕ) (xs : List T) → ((x : T) → t x ≡ u x) → position_from t i xs ≡ position_from u i xs
position_same t u i [] same = refl
position_same t u i (x ∷ xs) same = rw (same x, position_same t u (i + 1) xs same) refl

-- by tests that give the same
pub first_same : {T : Type 0} (t u : T → Bool) (items : List T) (i j : ℕ) → ((x : T) → t x ≡ u x) → first_in t items i j ≡ first_in u items i j
first_same t u items i j same = position_same t u i (slice_range items i j) same

-- ---- one item after another

pub nothing_in : {T : Type 0} (t : T → Bool) (items : List T) (i : ℕ) → first_in t items i i ≡ None
nothing_in t items i =
    let none : i - i ≡ 0 = omega arith in
    ap (λ n. position_from t i (take n (drop i items))) none

one_item : {T : Type 0} (items : List T) (j : ℕ) (x : T) → j < length items → x ≡ get_or items j x → slice_range items j (j + 1) ≡ x ∷ []
one_item items j x below at =
    let one : j + 1 - j ≡ 1 = omega arith in
    ap (λ n. take n (drop j items)) one ∙ ap (take 1) (drop_more items j x below) ∙ ap (λ y. y ∷ []) (sym at)

first_one : {T : Type 0} (t : T → Bool) (items : List T) (j : ℕ) (x : T) (b : Bool) → j < length items → x ≡ get_or items j x → t x ≡ b → first_in t items j (j + 1) ≡ cond b (Some j) None
first_one t items j x b below at test = ap (position_from t j) (one_item items j x below at) ∙ ap (λ c. cond c (Some j) None) test

-- up to an item and with it
first_with : {T : Type 0} (t : T → Bool) (items : List T) (i j : ℕ) (x : T) (b : Bool) → i ≤ j → j < length items → x ≡ get_or items j x → t x ≡ b → first_in t items i j ≡ None → first_in t items i (j + 1) ≡ cond b (Some j) None
first_with t items i j x b from below at test none =
    first_halves t items i j (j + 1) from (omega arith) (omega (arith, below))
    ∙ ap (λ o. option_or o (first_in t items j (j + 1))) none
    ∙ first_one t items j x b below at test

pub none_with : {T : Type 0} (t : T → Bool) (items : List T) (i j : ℕ) (x : T) → i ≤ j → j < length items → x ≡ get_or items j x → t x ≡ false → first_in t items i j ≡ None → first_in t items i (j + 1) ≡ None
none_with t items i j x from below at test none = first_with t items i j x false from below at test none

pub found_at : {T : Type 0} (t : T → Bool) (items : List T) (i j k : ℕ) (x : T) → i ≤ j → j < k → k ≤ length items → x ≡ get_or items j x → t x ≡ true → first_in t items i j ≡ None → first_in t items i k ≡ Some j
found_at t items i j k x from before within at test none =
    first_halves t items i (j + 1) k (omega (arith, from)) (omega (arith, before)) within
    ∙ ap (λ o. option_or o (first_in t items (j + 1) k)) (first_with t items i j x true from (omega (arith, before, within)) at test none)

-- ---- of all items

position_in_all : {T : Type 0} (t : T → Bool) (items : List T) → position t items ≡ first_in t items 0 (length items)
position_in_all t items =
    let all : length items ≡ length items - 0 = omega arith in
    position_from-zero t items ∙ ap (position_from t 0) (sym (take-length items)) ∙ ap (λ n. position_from t 0 (take n items)) all

-- what is found behind items of which none is wanted
pub position_behind : {T : Type 0} (t : T → Bool) (items : List T) (i : ℕ) → i ≤ length items → first_in t items 0 i ≡ None → first_in t items i (length items) ≡ position t items
position_behind t items i within none =
    sym (position_in_all t items ∙ first_halves t items 0 i (length items) (omega arith) within (omega arith) ∙ ap (λ o. option_or o (first_in t items i (length items))) none)

-- the same, where it stands before a place
pub position_between : {T : Type 0} (t : T → Bool) (items : List T) (i j : ℕ) (found : Option ℕ) → i ≤ j → j ≤ length items → first_in t items 0 i ≡ None → found ≡ first_in t items i j → is_some found ≡ true → found ≡ position t items
position_between t items i j None p q none e some = absurd (false≢true some)
position_between t items i j (Some n) p q none e some =
    sym (sym (position_behind t items i (omega (arith, p, q)) none) ∙ first_halves t items i j (length items) p q (omega arith) ∙ ap (λ o. option_or o (first_in t items j (length items))) (sym e))

is_none : (o : Option ℕ) → is_some o ≡ false → o ≡ None
is_none None e = refl
is_none (Some n) e = absurd (false≢true (sym e))

-- none of some more items is wanted
pub none_between : {T : Type 0} (t : T → Bool) (items : List T) (i j : ℕ) (found : Option ℕ) → i ≤ j → j ≤ length items → first_in t items 0 i ≡ None → found ≡ first_in t items i j → is_some found ≡ false → first_in t items 0 j ≡ None
none_between t items i j found p q none e missing =
    first_halves t items 0 i j (omega arith) p q ∙ ap (λ o. option_or o (first_in t items i j)) none ∙ sym e ∙ is_none found missing

-- none of all items is wanted
pub none_at_all : {T : Type 0} (t : T → Bool) (items : List T) (i : ℕ) → i ≡ length items → first_in t items 0 i ≡ None → None ≡ position t items
none_at_all t items i all none = sym (position_in_all t items ∙ ap (first_in t items 0) (sym all) ∙ none)
