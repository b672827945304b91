-- Sums of numbers in a row.
use Rattle.std.proofs.Common.{ℕ, zero, suc, ◌≡◌, ◌+◌, ◌*◌, ◌≤◌, ◌%◌, ◌^◌, ◌∙◌, ap, refl, arith, zero-add}
use Rattle.std.proofs.Math.Numerals.{suc-eq-add-one}
use Rattle.std.specs.List.{range_with_len}
use Rattle.std.proofs.lemmas.List.Sums.{sum_by-append}
use Rattle.fj_jobs.specs.Ranges.{range_sum}
use Rattle.fj_jobs.proofs.Stretches.{range-append}

sum_parts : (a m n : ℕ) → range_sum a (m + n) ≡ range_sum a m + range_sum (a + m) n
sum_parts a m n = rw (range-append a m n, sum_by-append (λ (x : ℕ). x) (range_with_len a m) (range_with_len (a + m) n)) refl

-- one number more
pub sum_more : (a n : ℕ) → range_sum a (n + 1) ≡ range_sum a n + (a + n)
sum_more a n = rw (sum_parts a n 1) (ap (λ t. range_sum a n + t) (zero-add (a + n)))

-- numbers below 2 ^ 32 have a small sum
pub sum_small : (a n : ℕ) → a + n ≤ 4294967296 → range_sum a n ≤ n * 4294967295
sum_small a zero h = omega arith
sum_small a (suc n) h =
    let less : range_sum a n ≤ n * 4294967295 = sum_small a n (omega arith) in
    let more : range_sum a (suc n) ≡ range_sum a n + (a + n) = ap (λ t. range_sum a t) (suc-eq-add-one n) ∙ sum_more a n in
    omega arith

-- the sum of both parts does not wrap
pub sum_halves : (a m n : ℕ) → a + (m + n) ≤ 2 ^ 32 → range_sum a (m + n) ≡ (range_sum a m + range_sum (a + m) n) % 2 ^ 64
sum_halves a m n h =
    let small : range_sum a (m + n) ≤ (m + n) * 4294967295 = sum_small a (m + n) (omega arith) in
    rw (← sum_parts a m n) (omega arith)
