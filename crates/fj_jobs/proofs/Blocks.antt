-- Half of the blocks of a range.
use Rattle.std.proofs.Common.{ℕ, ◌+◌, ◌*◌, ◌<◌, ◌≤◌, ◌⊎◌, inl, inr, arith}
use Rattle.std.specs.Int.{div_ceil}
use Rattle.std.proofs.lemmas.Grind.{div_ceil_times}
use Rattle.std.proofs.Math.Nat.{mul-le-mul_left}

one_less : (b : ℕ) → (b ≤ 1) ⊎ (2 ≤ b)
one_less b = grind arith

two_blocks : (n g b : ℕ) → g < n → n ≤ b * g → 2 ≤ b
two_blocks n g b k up = elim (one_less b) [ inl h ↦ absurd (let few : g * b ≤ g * 1 = mul-le-mul_left g h in omega arith) | inr h ↦ h ]

halves : (n g b c : ℕ) → 0 < g → 2 ≤ b → b * g < n + g → b ≤ c * 2 → c * 2 < b + 2 → (0 < c * g) × (c * g < n)
halves n g b c pos two low up high =
    let one : 1 ≤ c = omega arith in
    let less : c + 1 ≤ b = omega arith in
    let at_least : g * 1 ≤ g * c = mul-le-mul_left g one in
    let at_most : g * (c + 1) ≤ g * b = mul-le-mul_left g less in
    (omega arith, omega arith)

-- half the blocks of more than one are fewer numbers than all, and at least one
pub half_fits : (n g : ℕ) → 0 < g → g < n → (0 < div_ceil (div_ceil n g) 2 * g) × (div_ceil (div_ceil n g) 2 * g < n)
half_fits n g h k =
    let all = div_ceil_times n g h in
    let half = div_ceil_times (div_ceil n g) 2 (omega arith) in
    halves n g (div_ceil n g) (div_ceil (div_ceil n g) 2) h (two_blocks n g (div_ceil n g) k all.0) all.1 half.0 half.1
