-- Lines without a line feed.
use Rattle.std.proofs.Common.{ℕ, ◌≡◌, ◌^◌, ◌<◌, Bool, true, false, not, List, [], ◌∷◌, refl, ◌∙◌, arith}
use Rattle.std.specs.Prelude.{◌==◌}
use Rattle.std.specs.Fmt.{decimal}
use Rattle.std.specs.Int.{IsInRange}
use Rattle.std.specs.List.{list_all}
use Rattle.std.specs.Str.Parse.{AllDigits}
use Rattle.std.proofs.lemmas.Bool.{and_parts}
use Rattle.std.proofs.lemmas.Bool.Decides.{nat_tests}
use Rattle.std.proofs.lemmas.List.Folds.{list_all-append}
use Rattle.std.proofs.lemmas.Str.Parse.{digit_from_value}
use Rattle.fj_lines.specs.Words.{joined}
use Rattle.fj_lines.specs.Lines.{relay_word}
use Rattle.fj_lines.proofs.Reading.NumberLaws.{number_text}

-- whether no byte is a line feed
abbrev pub is_free : List ℕ → Bool
is_free line = list_all (λ b. not (b == 10)) line

-- words without one make a line without one
pub joined_free : (ws : List (List ℕ)) → list_all is_free ws ≡ true → is_free (joined ws) ≡ true
joined_free [] all = refl
joined_free (w ∷ []) all = (and_parts (is_free w) true all).0
joined_free (w ∷ v ∷ ws) all =
    let both = and_parts (is_free w) (list_all is_free (v ∷ ws)) all in
    list_all-append (λ b. not (b == 10)) w (32 ∷ joined (v ∷ ws)) ∙ rw (both.0, joined_free (v ∷ ws) both.1) refl

digits_free : (bs : List ℕ) → AllDigits 10 bs → is_free bs ≡ true
digits_free [] all = refl
digits_free (b ∷ bs) all =
    let digit : IsInRange 48 57 b = digit_from_value b all.0 in
    let other : (b == 10) ≡ false = grind (arith, nat_tests) in
    rw (other, digits_free bs all.1) refl

pub number_free : (n : ℕ) → n < 2 ^ 32 → is_free (decimal n) ≡ true
number_free n small = digits_free (decimal n) (number_text n small).digits

pub relay_free : (relay : Bool) → is_free (relay_word relay) ≡ true
relay_free true = refl
relay_free false = refl
