-- A search by halves among rising numbers: what is left of it after a probe, and how many probes it makes.
use Rattle.std.proofs.Common.{arith, ℕ, ◌≡◌, ◌+◌, ◌-◌, ◌*◌, ◌^◌, ◌<◌, ◌≤◌, length, add-one, subst, inl, inr}
use Rattle.std.proofs.Math.Nat.{mul-le-mul_right, mul_assoc, mul_comm, pow-suc}
use Rattle.std.proofs.Math.Pow.{pow_mono}
use Rattle.std.proofs.lemmas.Bool.{cases_lt}
use Rattle.fj_tree.specs.Kept.{Pairs, number_at, IsRising}

-- the number is nowhere below `low`, nor from `high` on; and each of the probes made has halved the places between
pub record Halved (l : Pairs) (n low high was count : ℕ) : Type 0 where
  pub ordered : low ≤ high
  pub in_range : high ≤ length l
  pub smaller : (i : ℕ) → i < low → number_at l i < n
  pub larger : (i : ℕ) → high ≤ i → i < length l → n < number_at l i
  pub made : ℕ
  pub counted : count ≡ was + made
  pub narrowed : (high - low) * 2 ^ made ≤ length l
  pub few : (k : ℕ) → length l < 2 ^ k → made ≤ k

-- half as many places at most, and one probe more
narrower : (width half made bound : ℕ) → 2 * half ≤ width → width * 2 ^ made ≤ bound → half * 2 ^ (made + 1) ≤ bound
narrower width half made bound halved narrowed =
    let doubled : 2 * half * 2 ^ made ≤ width * 2 ^ made = mul-le-mul_right (2 ^ made) halved in
    rw (add-one, pow-suc) (grind (arith, doubled, mul_assoc, mul_comm))

-- one place is left at least, so the probe that is made there is among the first k
pub one_more : (width made bound k : ℕ) → 0 < width → width * 2 ^ made ≤ bound → bound < 2 ^ k → made + 1 ≤ k
one_more width made bound k some narrowed within = elim (cases_lt made k) [
  | inl below ↦ omega arith
  | inr past ↦
      let larger : 2 ^ k ≤ 2 ^ made = pow_mono past in
      let one : 1 * 2 ^ made ≤ width * 2 ^ made = mul-le-mul_right (2 ^ made) some in
      absurd (omega arith)
]

module _ (l : Pairs) (rising : IsRising l) (n low high was count middle : ℕ) (half : Halved l n low high was count) (from : low ≤ middle) (below : middle < high) where
  -- how many probes there are with this one
  pub few_more : (k : ℕ) → length l < 2 ^ k → half.made + 1 ≤ k
  few_more k within = one_more (high - low) half.made (length l) k (omega arith) half.narrowed within

  -- the number at the middle is too small
  pub halved_above : number_at l middle < n → 2 * (high - (middle + 1)) ≤ high - low → Halved l n (middle + 1) high was (count + 1)
  halved_above small halved = record {
    ordered = omega arith;
    in_range = half.in_range;
    smaller = λ i before. elim (cases_lt i middle) [
      | inl earlier ↦ omega (arith, rising i middle earlier (omega (arith, half.in_range)))
      | inr here ↦
          let same : middle ≡ i = omega arith in
          subst (λ (j : ℕ). number_at l j < n) same small
    ];
    larger = half.larger;
    made = half.made + 1;
    counted = omega (arith, half.counted);
    narrowed = narrower (high - low) (high - (middle + 1)) half.made (length l) halved half.narrowed;
    few = few_more;
  }

  -- the number at the middle is too large
  pub halved_below : n < number_at l middle → 2 * (middle - low) ≤ high - low → Halved l n low middle was (count + 1)
  halved_below large halved = record {
    ordered = from;
    in_range = omega (arith, half.in_range);
    smaller = half.smaller;
    larger = λ i past within. elim (cases_lt middle i) [
      | inl later ↦ omega (arith, rising middle i later within)
      | inr here ↦
          let same : middle ≡ i = omega arith in
          subst (λ (j : ℕ). n < number_at l j) same large
    ];
    made = half.made + 1;
    counted = omega (arith, half.counted);
    narrowed = narrower (high - low) (middle - low) half.made (length l) halved half.narrowed;
    few = few_more;
  }
