-- How many numbers in a row pass a test.
use Rattle.std.proofs.Common.{ℕ, ◌≡◌, ◌+◌, ◌≤◌, ◌%◌, ◌^◌, Bool, true, false, cond, refl, arith, length}
use Rattle.std.specs.List.{range_with_len, count_by}
use Rattle.std.proofs.lemmas.List.FromFn.{length-range_with_len}
use Rattle.std.proofs.lemmas.List.Sums.{sum_by-append, count_by-le-length}
use Rattle.fj_jobs.proofs.Stretches.{range-append}

count_parts : (p : ℕ → Bool) (a m n : ℕ) → count_by p (range_with_len a (m + n)) ≡ count_by p (range_with_len a m) + count_by p (range_with_len (a + m) n)
count_parts p a m n = rw (range-append a m n, sum_by-append (λ x. cond (p x) 1 0) (range_with_len a m) (range_with_len (a + m) n)) refl

-- one number more, which passes
pub count_more_yes : (p : ℕ → Bool) (a n : ℕ) → p (a + n) ≡ true → count_by p (range_with_len a (n + 1)) ≡ count_by p (range_with_len a n) + 1
count_more_yes p a n passes = rw (count_parts p a n 1) (rw passes refl)

-- one number more, which does not
pub count_more_no : (p : ℕ → Bool) (a n : ℕ) → p (a + n) ≡ false → count_by p (range_with_len a (n + 1)) ≡ count_by p (range_with_len a n)
count_more_no p a n fails = rw (count_parts p a n 1) (rw fails (omega arith))

-- the count in both parts does not wrap
pub count_halves : (p : ℕ → Bool) (a m n : ℕ) → a + (m + n) ≤ 2 ^ 32 → count_by p (range_with_len a (m + n)) ≡ (count_by p (range_with_len a m) + count_by p (range_with_len (a + m) n)) % 2 ^ 64
count_halves p a m n h =
    let few : count_by p (range_with_len a (m + n)) ≤ length (range_with_len a (m + n)) = count_by-le-length p (range_with_len a (m + n)) in
    let long = length-range_with_len a (m + n) in
    rw (← count_parts p a m n) (omega arith)
