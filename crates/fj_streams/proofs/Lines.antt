-- Bytes that are read in two parts, and their lines.
use Rattle.std.specs.Prelude.{◌==◌, if◌then◌else◌, Bool, true, false}
use Rattle.std.proofs.Common.{ℕ, zero, suc, ◌≡◌, ◌+◌, ◌-◌, ◌<◌, ◌≤◌, List, [], ◌∷◌, ◌++◌, refl, ◌∙◌, sym, ap, arith, take, drop, length, append_assoc, ◌⊎◌, inl, inr}
use Rattle.std.proofs.lemmas.List.{append-nil, get_or-take, length-drop, length-take, take-append-drop, take_all}
use Rattle.std.proofs.Math.Seq.{drop-cons}
use Rattle.std.proofs.Math.ListN.{get_or}
use Rattle.std.proofs.Math.Numerals.{add-one}
use Rattle.std.proofs.lemmas.Bool.Decides.{nat_tests}
use Rattle.memchr.specs.Find.{NoneBefore, Nowhere, Passes, is_byte}
use Rattle.fj_streams.specs.declared.line_buffer.TheConstants.{LINE_FEED}
use Rattle.fj_streams.specs.Cuts.{cut, left, lines}

pub yes_or_no : (t : Bool) → (t ≡ true) ⊎ (t ≡ false)
yes_or_no true = inl refl
yes_or_no false = inr refl

pub cut-append : (before xs ys : List ℕ) → cut before (xs ++ ys) ≡ cut before xs ++ cut (left before xs) ys
cut-append before [] ys = refl
cut-append before (x ∷ xs) ys =
    elim (x == 10) as (λ t. (if t then (before ∷ cut [] (xs ++ ys)) else cut (before ++ x ∷ []) (xs ++ ys)) ≡ (if t then (before ∷ cut [] xs) else cut (before ++ x ∷ []) xs) ++ cut (if t then left [] xs else left (before ++ x ∷ []) xs) ys) [
      | true ↦ ap (λ l. before ∷ l) (cut-append [] xs ys)
      | false ↦ cut-append (before ++ x ∷ []) xs ys
    ]

pub left-append : (before xs ys : List ℕ) → left before (xs ++ ys) ≡ left (left before xs) ys
left-append before [] ys = refl
left-append before (x ∷ xs) ys =
    elim (x == 10) as (λ t. (if t then left [] (xs ++ ys) else left (before ++ x ∷ []) (xs ++ ys)) ≡ left (if t then left [] xs else left (before ++ x ∷ []) xs) ys) [
      | true ↦ left-append [] xs ys
      | false ↦ left-append (before ++ x ∷ []) xs ys
    ]

-- where no line ends, none does behind other bytes
pub uncut : (before other xs : List ℕ) → cut before xs ≡ [] → cut other xs ≡ []
uncut before other [] e = refl
uncut before other (x ∷ xs) e =
    elim (yes_or_no (x == 10)) [
      | inl t ↦ let bad : before ∷ cut [] xs ≡ [] = rw t at e in absurd cc
      | inr f ↦
          let none : cut (before ++ x ∷ []) xs ≡ [] = rw f at e in
          rw f (uncut (before ++ x ∷ []) (other ++ x ∷ []) xs none)
    ]

-- without a line feed everything is left
pub left-uncut : (before xs : List ℕ) → cut before xs ≡ [] → left before xs ≡ before ++ xs
left-uncut before [] e = sym (append-nil before)
left-uncut before (x ∷ xs) e =
    elim (yes_or_no (x == 10)) [
      | inl t ↦ let bad : before ∷ cut [] xs ≡ [] = rw t at e in absurd cc
      | inr f ↦
          let none : cut (before ++ x ∷ []) xs ≡ [] = rw f at e in
          rw f (left-uncut (before ++ x ∷ []) xs none ∙ append_assoc before (x ∷ []) xs)
    ]

-- there are no more lines than bytes
pub few_cuts : (before xs : List ℕ) → length (cut before xs) ≤ length xs
few_cuts before [] = omega arith
few_cuts before (x ∷ xs) =
    elim (x == 10) as (λ t. length (if t then (before ∷ cut [] xs) else cut (before ++ x ∷ []) xs) ≤ length (x ∷ xs)) [
      | true ↦ let few = few_cuts [] xs in omega arith
      | false ↦ let few = few_cuts (before ++ x ∷ []) xs in omega arith
    ]

-- ---- the first line feed

no_end : (before xs : List ℕ) → ((k : ℕ) → k < length xs → (get_or xs k 0 == 10) ≡ true → ⊥) → cut before xs ≡ []
no_end before [] none = refl
no_end before (x ∷ xs) none =
    elim (yes_or_no (x == 10)) [
      | inl t ↦ absurd (none zero (omega arith) t)
      | inr f ↦ rw f (no_end (before ++ x ∷ []) xs (λ k h t. none (suc k) (omega arith) t))
    ]

-- where there is none, no line ends
pub no_line : (xs : List ℕ) → Nowhere (Passes (is_byte LINE_FEED) xs) 0 (length xs) → lines xs ≡ []
no_line xs none = no_end [] xs (λ k h t. none k (omega arith) h t)

-- before it, no line ends
pub before_end : (xs : List ℕ) (k : ℕ) → NoneBefore (Passes (is_byte LINE_FEED) xs) 0 (length xs) k → lines (take k xs) ≡ []
before_end xs k first = no_end [] (take k xs) (λ i h t.
    let near : i < k = let l = length-take k xs in grind (arith, l) in
    let same : get_or (take k xs) i 0 ≡ get_or xs i 0 = get_or-take k xs i 0 near in
    first.before i (omega arith) near (rw same at t))

-- the bytes in three parts: before it, it, and behind it
pub three_parts : (xs : List ℕ) (k : ℕ) → k < length xs → Passes (is_byte LINE_FEED) xs k → xs ≡ take k xs ++ LINE_FEED ∷ drop (k + 1) xs
three_parts xs k h ends =
    let feed : get_or xs k 0 ≡ LINE_FEED = grind (arith, nat_tests) in
    let tail : drop k xs ≡ get_or xs k 0 ∷ drop (k + 1) xs = rw add-one (drop-cons xs k 0 h) in
    sym (take-append-drop k xs) ∙ ap (λ t. take k xs ++ t) (rw feed at tail)

-- the same behind other bytes, of which these are the rest
pub one_line_more : (all taken xs : List ℕ) (k : ℕ) → all ≡ taken ++ xs → k < length xs → Passes (is_byte LINE_FEED) xs k → all ≡ (taken ++ (take k xs ++ LINE_FEED ∷ [])) ++ take (length xs - (k + 1)) (drop (k + 1) xs)
one_line_more all taken xs k whole h ends =
    let short : length (drop (k + 1) xs) ≤ length xs - (k + 1) = let l = length-drop (k + 1) xs in omega arith in
    let behind : take (length xs - (k + 1)) (drop (k + 1) xs) ≡ drop (k + 1) xs = take_all (length xs - (k + 1)) (drop (k + 1) xs) short in
    whole ∙ ap (λ t. taken ++ t) (three_parts xs k h ends) ∙ rw (behind, append_assoc, append_assoc) refl
