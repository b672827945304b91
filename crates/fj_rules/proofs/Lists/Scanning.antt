-- A scan of all places from one on, which begins again behind the last.
use Rattle.std.proofs.Common.{ℕ, ◌≡◌, ◌+◌, ◌-◌, ◌%◌, ◌<◌, arith}
use Rattle.std.proofs.Math.Nat.{mod-add-mod, add-mod-mod, add-mod_right, mod-eq_of_lt}

-- how many places from r on it comes to a place
pub comes_to : (count r q : ℕ) → q < count → (r + (q + (count - r % count)) % count) % count ≡ q
comes_to count r q within =
    let low : r % count < count = omega arith in
    let gone_by : (r % count + (q + (count - r % count))) % count ≡ (r + (q + (count - r % count))) % count = mod-add-mod r count (q + (count - r % count)) in
    let round : r % count + (q + (count - r % count)) ≡ q + count = omega arith in
    rw (add-mod-mod r (q + (count - r % count)) count, ← gone_by, round, add-mod_right q count) (mod-eq_of_lt within)
