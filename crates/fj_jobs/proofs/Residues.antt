-- Least values and first hits.
use Rattle.std.proofs.Common.{ℕ, zero, suc, ◌≡◌, ◌≢◌, ◌+◌, ◌-◌, ◌⊎◌, inl, inr, ◌*◌, ◌<◌, ◌≤◌, ◌^◌, ◌∙◌, List, [], ◌∷◌, ◌++◌, sym, ap, refl, arith, Option, Some, None}
use Rattle.std.proofs.lemmas.Bool.Decides.{nat_tests}
use Rattle.std.proofs.Math.Nat.{mul-le-mul_left}
use Rattle.std.specs.List.{range_with_len}
use Rattle.std.specs.Option.{option_or}
use Rattle.std.specs.Prelude.{◌==◌, if◌then◌else◌}
use Rattle.std.proofs.lemmas.List.Folds.{find-append}
use Rattle.std.proofs.lemmas.Bool.{cases_eq, cases_lt, eq-eqb, le-ltb, lt-ltb, ne_eqb}
use Rattle.std.proofs.Math.Numerals.{suc-eq-add-one}
use Rattle.fj_jobs.specs.Ranges.{IsAmong, pick, better, least, residue, residues_least, IsLeast, first_hit, residues_hit, IsFirst}
use Rattle.fj_jobs.proofs.Stretches.{range-append}

pub product_small : (x y z : ℕ) → x < 2 ^ 32 → y < 2 ^ 32 → z < 2 ^ 32 → x * y + z < 2 ^ 64
product_small x y z p q r =
    let m : x * y ≤ x * 4294967295 = mul-le-mul_left x (omega arith) in
    omega arith

-- ---- the first number of a row, and the others

first_or_later : (a n y : ℕ) → IsAmong a (n + 1) y → (y ≡ a) ⊎ IsAmong (a + 1) n y
first_or_later a n y in_range = elim (cases_lt a y) [
  | inl lt ↦ inr (omega arith, let high = in_range.1 in omega arith)
  | inr le ↦ inl (let low = in_range.0 in omega arith)
]

-- ---- least values

pick_assoc : (p q r : ℕ × ℕ) → pick (pick p q) r ≡ pick p (pick q r)
pick_assoc p q r = grind (arith, nat_tests)

better_assoc : (p q r : Option (ℕ × ℕ)) → better (better p q) r ≡ better p (better q r)
better_assoc None q r = refl
better_assoc (Some p) None r = refl
better_assoc (Some p) (Some q) None = refl
better_assoc (Some p) (Some q) (Some r) = ap Some (pick_assoc p q r)

least-append : (f : ℕ → ℕ) (xs ys : List ℕ) → least f (xs ++ ys) ≡ better (least f xs) (least f ys)
least-append f [] ys = refl
least-append f (x ∷ xs) ys = rw (least-append f xs ys) (sym (better_assoc (Some (f x, x)) (least f xs) (least f ys)))

pub least_halves : (u v w a m n : ℕ) → residues_least u v w a (m + n) ≡ better (residues_least u v w a m) (residues_least u v w (a + m) n)
least_halves u v w a m n = rw (range-append a m n) (least-append (residue u v w) (range_with_len a m) (range_with_len (a + m) n))

-- one number more
pub least_more : (u v w a n : ℕ) → residues_least u v w a (n + 1) ≡ better (residues_least u v w a n) (Some (residue u v w (a + n), a + n))
least_more u v w a n = least_halves u v w a n 1

-- ---- first hits

pub hit_halves : (u v w k a m n : ℕ) → residues_hit u v w k a (m + n) ≡ option_or (residues_hit u v w k a m) (residues_hit u v w k (a + m) n)
hit_halves u v w k a m n = rw (range-append a m n) (find-append (λ x. residue u v w x == k) (range_with_len a m) (range_with_len (a + m) n))

-- one number more
pub hit_more : (u v w k a n : ℕ) → residues_hit u v w k a (n + 1) ≡ option_or (residues_hit u v w k a n) (if residue u v w (a + n) == k then Some (a + n) else None)
hit_more u v w k a n = hit_halves u v w k a n 1

-- a value behind numbers that do not have it
pub hit_found : (u v w k a i n : ℕ) → i < n → residues_hit u v w k a i ≡ None → residue u v w (a + i) ≡ k → residues_hit u v w k a n ≡ Some (a + i)
hit_found u v w k a i n lt none found =
    let here : residues_hit u v w k (a + i) 1 ≡ Some (a + i) = rw (eq-eqb (residue u v w (a + i)) k found) refl in
    let parts : n ≡ i + (1 + (n - (i + 1))) = omega arith in
    let behind : residues_hit u v w k (a + i) (1 + (n - (i + 1))) ≡ Some (a + i) = rw (hit_halves u v w k (a + i) 1 (n - (i + 1)), here) refl in
    rw (parts, hit_halves u v w k a i (1 + (n - (i + 1))), none, behind) refl

-- ---- what they are

least_before : (f : ℕ → ℕ) (a n : ℕ) (r : Option (ℕ × ℕ)) → IsLeast f (a + 1) n r → IsLeast f a (n + 1) (better (Some (f a, a)) r)
least_before f a n None none = record {
  among = (omega arith, omega arith);
  value = refl;
  least = λ y in_range. let same : y ≡ a = omega arith in rw same (omega arith);
  smallest = λ y in_range e. in_range.0;
}
least_before f a n (Some q) later = elim (cases_lt q.0 (f a)) [
  | inl lt ↦ rw (lt-ltb q.0 (f a) lt) (record {
    among = (let up = later.among.0 in omega arith, let up = later.among.1 in omega arith);
    value = later.value;
    least = λ y in_range. elim (first_or_later a n y in_range) [
      | inl same ↦ rw same (omega arith)
      | inr behind ↦ later.least y behind
    ];
    smallest = λ y in_range e. elim (first_or_later a n y in_range) [
      | inl same ↦ absurd (let is : f a ≡ q.0 = ap f (sym same) ∙ e in omega arith)
      | inr behind ↦ later.smallest y behind e
    ];
  })
  | inr le ↦ rw (le-ltb q.0 (f a) le) (record {
    among = (omega arith, omega arith);
    value = refl;
    least = λ y in_range. elim (first_or_later a n y in_range) [
      | inl same ↦ rw same (omega arith)
      | inr behind ↦ let more = later.least y behind in omega arith
    ];
    smallest = λ y in_range e. in_range.0;
  })
]

-- what is computed is the least value, and the smallest number that has it
least_is : (f : ℕ → ℕ) (a n : ℕ) → IsLeast f a n (least f (range_with_len a n))
least_is f a zero = refl
least_is f a (suc n) = rw (suc-eq-add-one n) (least_before f a n (least f (range_with_len (a + 1) n)) (least_is f (a + 1) n))

pub least_is_least : (u v w a n : ℕ) (r : Option (ℕ × ℕ)) → r ≡ residues_least u v w a n → IsLeast (residue u v w) a n r
least_is_least u v w a n r e = rw e (least_is (residue u v w) a n)

first_behind : (f : ℕ → ℕ) (want a n : ℕ) (r : Option ℕ) → f a ≢ want → IsFirst f want (a + 1) n r → IsFirst f want a (n + 1) r
first_behind f want a n None other none = λ y in_range e. elim (first_or_later a n y in_range) [
  | inl same ↦ other (ap f (sym same) ∙ e)
  | inr behind ↦ none y behind e
]
first_behind f want a n (Some x) other later = record {
  among = (let up = later.among.0 in omega arith, let up = later.among.1 in omega arith);
  value = later.value;
  smallest = λ y in_range e. elim (first_or_later a n y in_range) [
    | inl same ↦ absurd (other (ap f (sym same) ∙ e))
    | inr behind ↦ later.smallest y behind e
  ];
}

-- what is computed is the first number with the value
first_is : (f : ℕ → ℕ) (want a n : ℕ) → IsFirst f want a n (first_hit f want a n)
first_is f want a zero = λ y in_range e. absurd (let low = in_range.0 in let high = in_range.1 in omega arith)
first_is f want a (suc n) = elim (cases_eq (f a) want) [
  | inl same ↦ rw (eq-eqb (f a) want same) (record {
    among = (omega arith, omega arith);
    value = same;
    smallest = λ y in_range e. in_range.0;
  })
  | inr other ↦ rw (ne_eqb (f a) want other, suc-eq-add-one n) (first_behind f want a n (first_hit f want (a + 1) n) other (first_is f want (a + 1) n))
]

pub hit_is_first : (u v w k a n : ℕ) (r : Option ℕ) → r ≡ residues_hit u v w k a n → IsFirst (residue u v w) k a n r
hit_is_first u v w k a n r e = rw e (first_is (residue u v w) k a n)
