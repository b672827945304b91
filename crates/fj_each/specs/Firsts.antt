-- The first wanted item.
use Rattle.std.specs.Prelude.{ℕ, ◌≡◌, ◌==◌, ◌&&◌, Bool, true, List, Option, slice_range}
use Rattle.std.specs.List.{position_from}
use Rattle.std.proofs.Common.{arith, refl}
use Rattle.std.proofs.lemmas.Bool.Decides.{nat_tests}

-- the place of the first wanted item between two places
abbrev pub first_in : {T : Type 0} → (T → Bool) → List T → ℕ → ℕ → Option ℕ
first_in wants items from to = position_from wants from (slice_range items from to)

pub same_first : {T : Type 0} → (wants : T → Bool) (items : List T) (a m b n : ℕ) → (a == b) && (m == n) ≡ true → first_in wants items a m ≡ first_in wants items b n
same_first wants items a m b n e =
    let from : a ≡ b = grind (arith, nat_tests) in
    let to : m ≡ n = grind (arith, nat_tests) in
    rw (from, to) refl
