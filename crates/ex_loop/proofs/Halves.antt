-- Sums of two parts of a list.
use Rattle.std.proofs.Common.{ℕ, ◌≡◌, ◌+◌, ◌%◌, ◌^◌, List, ◌++◌, arith}
use Rattle.std.proofs.Math.Logic.{∥∥₁_map₂}
use Rattle.std.proofs.lemmas.List.Sums.{sum_by-append}
use Rattle.ex_loop.specs.Sums.{wrapped_sum}

sum_halves : (xs ys : List ℕ) (a b : ℕ) → a ≡ wrapped_sum xs → b ≡ wrapped_sum ys → (a + b) % 2 ^ 64 ≡ wrapped_sum (xs ++ ys)
sum_halves xs ys a b p q = rw (sum_by-append (λ (x : ℕ). x) xs ys) (omega arith)

-- what two sums give is the sum of both lists
pub sum_of_both : (xs ys : List ℕ) (a b : ℕ) → ∥ a ≡ wrapped_sum xs ∥₁ → ∥ b ≡ wrapped_sum ys ∥₁ → ∥ (a + b) % 2 ^ 64 ≡ wrapped_sum (xs ++ ys) ∥₁
sum_of_both xs ys a b p q = ∥∥₁_map₂ p q (sum_halves xs ys a b)
