-- A list that goes on with one value up to a length.
use Rattle.std.specs.Prelude.{replicate}
use Rattle.std.proofs.Common.{ℕ, suc, ◌≡◌, ◌+◌, ◌-◌, ◌<◌, ◌≤◌, List, [], ◌∷◌, ◌++◌, length, length-append, append_assoc, set, sym, ap, ◌∙◌, refl, arith}
use Rattle.std.proofs.Math.Seq.{set-append_seam}
use Rattle.std.proofs.lemmas.List.{length-replicate, length-set, replicate-append-replicate, set-append_left}
use Rattle.fj_slots.specs.Slots.{padded}

module _ {X : Type 0} where
  pub length_padded : (xs : List X) (count : ℕ) (x : X) → length xs ≤ count → length (padded xs count x) ≡ count
  length_padded xs count x low = omega (arith, length-append xs (replicate (count - length xs) x), length-replicate (count - length xs) x)

  -- where the padded list is known, a place in it is within the count
  pub in_count : (xs : List X) (count : ℕ) (x : X) {now : List X} (at : ℕ) → length xs ≤ count → padded xs count x ≡ now → at < length now → at < count
  in_count xs count x at low is there = omega (arith, length_padded xs count x low, ap length is, there)

  pub write_low : (xs : List X) (count : ℕ) (x y : X) (at : ℕ) → at < length xs → padded (set xs at y) count x ≡ set (padded xs count x) at y
  write_low xs count x y at low =
      ap (λ n. set xs at y ++ replicate (count - n) x) (length-set xs at y) ∙ sym (set-append_left xs (replicate (count - length xs) x) at y low)

  -- what is written up to a place is there already
  written : (xs : List X) (count : ℕ) (x : X) (at : ℕ) → length xs ≤ at → at < count → padded xs count x ≡ (xs ++ replicate (at - length xs) x) ++ x ∷ replicate (count - at - 1) x
  written xs count x at high within =
      let long : count - length xs ≡ (at - length xs) + suc (count - at - 1) = omega (arith, high, within) in
      ap (λ n. xs ++ replicate n x) long ∙ ap (λ l. xs ++ l) (sym (replicate-append-replicate (at - length xs) (suc (count - at - 1)) x))
      ∙ sym (append_assoc xs (replicate (at - length xs) x) (x ∷ replicate (count - at - 1) x))

  pub long_up : (xs : List X) (x : X) {now : List X} (at : ℕ) → now ≡ xs ++ replicate (at - length xs) x → length xs ≤ at → length now ≡ at
  long_up xs x at is high = omega (arith, ap length is, length-append xs (replicate (at - length xs) x), length-replicate (at - length xs) x, high)

  -- and one more is written
  pub one_more : (xs : List X) (x : X) {now later : List X} (at : ℕ) → length xs ≤ at → now ≡ xs ++ replicate (at - length xs) x → later ≡ now ++ x ∷ []
      → later ≡ xs ++ replicate (at + 1 - length xs) x
  one_more xs x at high is more =
      let long : (at - length xs) + 1 ≡ at + 1 - length xs = omega (arith, high) in
      more ∙ ap (λ l. l ++ x ∷ []) is ∙ append_assoc xs (replicate (at - length xs) x) (x ∷ []) ∙ ap (λ l. xs ++ l) (replicate-append-replicate (at - length xs) 1 x)
      ∙ ap (λ n. xs ++ replicate n x) long

  set_in : (xs : List X) (count : ℕ) (x y : X) (at : ℕ) → length xs ≤ at → at < count → set (padded xs count x) at y ≡ (xs ++ replicate (at - length xs) x) ++ y ∷ replicate (count - at - 1) x
  set_in xs count x y at high within =
      let up = xs ++ replicate (at - length xs) x in
      ap (λ l. set l at y) (written xs count x at high within) ∙ ap (λ n. set (up ++ x ∷ replicate (count - at - 1) x) n y) (sym (long_up xs x at refl high)) ∙ set-append_seam up x (replicate (count - at - 1) x) y

  pub write_high : (xs : List X) (count : ℕ) (x y : X) (at : ℕ) → length xs ≤ at → at < count → padded ((xs ++ replicate (at - length xs) x) ++ y ∷ []) count x ≡ set (padded xs count x) at y
  write_high xs count x y at high within =
      let up = xs ++ replicate (at - length xs) x in
      let more : length (up ++ y ∷ []) ≡ at + 1 = omega (arith, length-append up (y ∷ []), long_up xs x at refl high) in
      let left : count - length (up ++ y ∷ []) ≡ count - at - 1 = omega (arith, more, within) in
      append_assoc up (y ∷ []) (replicate (count - length (up ++ y ∷ [])) x) ∙ ap (λ n. up ++ y ∷ replicate n x) left ∙ sym (set_in xs count x y at high within)

  -- what was never written can be written as it is
  pub write_same : (xs : List X) (count : ℕ) (x : X) (at : ℕ) → length xs ≤ at → at < count → set (padded xs count x) at x ≡ padded xs count x
  write_same xs count x at high within = set_in xs count x x at high within ∙ sym (written xs count x at high within)
