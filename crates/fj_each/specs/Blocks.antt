-- Blocks of items.
use Rattle.std.specs.Prelude.{ℕ, ◌≡◌, ◌-◌, ◌==◌, ◌&&◌, true}
use Rattle.std.proofs.Common.{arith}
use Rattle.std.proofs.lemmas.Bool.Decides.{nat_tests}
use Rattle.fj_each.specs.declared.block.Block.{Block}

-- how many items a block has
abbrev pub size_of : Block → ℕ
size_of block = block.to - block.from

-- the first block is the second one and, behind it, the third one
abbrev pub AreParts : Block → Block → Block → Type 0
AreParts whole left right = (left.from ≡ whole.from) × (left.to ≡ right.from) × (right.to ≡ whole.to)

-- what holds of a block holds of an equal one
pub same_block : (P : ℕ → ℕ → Type 0) (a m b n : ℕ) → (a == b) && (m == n) ≡ true → P a m → P b n
same_block P a m b n e p =
    let from : a ≡ b = grind (arith, nat_tests) in
    let to : m ≡ n = grind (arith, nat_tests) in
    rw (← from, ← to) p
