-- Numbers in a row, in two parts.
use Rattle.std.proofs.Common.{ℕ, zero, suc, ◌≡◌, ◌+◌, ◌++◌, refl, arith, zero-add, add-zero}
use Rattle.std.proofs.Math.Nat.{suc-add}
use Rattle.std.specs.List.{range_with_len}

-- m + n numbers in a row are m of them, and n behind them
pub range-append : (a m n : ℕ) → range_with_len a (m + n) ≡ range_with_len a m ++ range_with_len (a + m) n
range-append a zero n = rw (zero-add, add-zero) refl
range-append a (suc m) n =
    let e : a + suc m ≡ (a + 1) + m = omega arith in
    rw (suc-add, e, range-append (a + 1) m n) refl
