-- Words that are numbers, and no more.
use Rattle.std.proofs.Common.{◌≡◌, ℕ, ◌^◌, ◌<◌, true, List, [], ◌∷◌, Option, Some, refl, sym, subst}
use Rattle.std.specs.Fmt.{decimal}
use Rattle.fj_lines.specs.Words.{◌>>=◌, number_first, is_last, if_last, one_number, two_numbers}
use Rattle.fj_lines.proofs.Reading.NumberLaws.{number_again}
use Rattle.fj_lines.proofs.Reading.PartLaws.{number_then, last_then, some_then}

pub none_left : (ws : List (List ℕ)) → is_last ws ≡ true → ws ≡ []
none_left [] e = refl
none_left (w ∷ ws) e = absurd cc

-- ---- where words go on with numbers that are all that is left, their texts are all that stands there

pub one_then : {A P : Type 0} (ws : List (List ℕ)) (f : ℕ → Option A) (y : A) → (one_number ws >>= f) ≡ Some y
    → ((a : ℕ) → a < 2 ^ 32 → ws ≡ decimal a ∷ [] → f a ≡ Some y → P) → P
unfolding one_number
one_then ws f y e then =
    some_then (one_number ws) f y e (λ n read said.
    number_then ws (λ a. if_last a.1 a.0) n read (λ a rest small first read1.
    last_then rest a n read1 (λ none is.
    then a small (cc) (subst (λ (m : ℕ). f m ≡ Some y) (sym is) said))))

pub two_then : {A P : Type 0} (ws : List (List ℕ)) (f : ℕ × ℕ → Option A) (y : A) → (two_numbers ws >>= f) ≡ Some y
    → ((a b : ℕ) → a < 2 ^ 32 → b < 2 ^ 32 → ws ≡ decimal a ∷ decimal b ∷ [] → f (a, b) ≡ Some y → P) → P
unfolding two_numbers
two_then ws f y e then =
    some_then (two_numbers ws) f y e (λ p read said.
    number_then ws (λ a. number_first a.1 >>= λ b. if_last b.1 (a.0, b.0)) p read (λ a rest a_small first read1.
    number_then rest (λ b. if_last b.1 (a, b.0)) p read1 (λ b end b_small second read2.
    last_then end (a, b) p read2 (λ none is.
    then a b a_small b_small (cc) (subst (λ (q : ℕ × ℕ). f q ≡ Some y) (sym is) said)))))

-- ---- the texts of numbers are read as these numbers

pub one_again : (a : ℕ) → a < 2 ^ 32 → one_number (decimal a ∷ []) ≡ Some a
unfolding one_number
one_again a a_small = rw (number_again a a_small) refl

pub two_again : (a b : ℕ) → a < 2 ^ 32 → b < 2 ^ 32 → two_numbers (decimal a ∷ decimal b ∷ []) ≡ Some (a, b)
unfolding two_numbers
two_again a b a_small b_small = rw (number_again a a_small, number_again b b_small) refl
