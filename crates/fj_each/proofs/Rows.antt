-- Parts of a list in a row.
use Rattle.std.proofs.Common.{◌≡◌, ℕ, ◌+◌, ◌-◌, ◌≤◌, List, ◌++◌, length, slice_range, take, drop, arith, sym, ap, ◌∙◌}
use Rattle.std.proofs.Math.Seq.{take-add, take-length}
use Rattle.std.proofs.lemmas.List.{drop-drop}

-- two parts that meet are one
pub in_a_row : {X : Type 0} (xs : List X) (i j k : ℕ) → i ≤ j → j ≤ k → slice_range xs i j ++ slice_range xs j k ≡ slice_range xs i k
in_a_row xs i j k p q =
    let n = j - i in
    let m = k - j in
    let count : k - i ≡ n + m = omega arith in
    let place : i + n ≡ j = omega arith in
    sym (ap (λ c. take c (drop i xs)) count ∙ take-add n m (drop i xs) ∙ ap (λ ys. take n (drop i xs) ++ take m ys) (drop-drop n i xs ∙ ap (λ c. drop c xs) place))

-- a part and all behind it
pub in_all : {X : Type 0} (xs : List X) (j : ℕ) → j ≤ length xs → slice_range xs 0 j ++ slice_range xs j (length xs) ≡ xs
in_all xs j p =
    let all : length xs - 0 ≡ length xs = omega arith in
    in_a_row xs 0 j (length xs) (omega arith) p ∙ ap (λ n. take n xs) all ∙ take-length xs
