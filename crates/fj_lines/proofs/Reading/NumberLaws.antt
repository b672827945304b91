-- Numbers below 2 ^ 32 and their decimal texts.
use Rattle.std.proofs.Common.{◌≡◌, ℕ, ◌^◌, ◌<◌, ◌≤◌, Bool, true, false, cond, ltb, eqb, ◌&&◌, List, [], ◌∷◌, length, get_or, take, Some, None, refl, sym, ap, subst, ◌∙◌, arith, inl, inr}
use Rattle.std.specs.Fmt.{decimal}
use Rattle.std.specs.Int.{IsInRange}
use Rattle.std.specs.Str.{bytes_eq}
use Rattle.std.specs.Str.Parse.{AllDigits, IsNumeral, digits_value}
use Rattle.std.proofs.lemmas.Bool.{cases_lt, lt-ltb, ltb-true}
use Rattle.std.proofs.lemmas.Fmt.{decimal_is_IsNumeral, decimal_digit, first_decimal, length-decimal-le, decimal-digits_value}
use Rattle.std.proofs.lemmas.Slice.Eq.{bytes_eq-Decides}
use Rattle.std.proofs.lemmas.Str.Parse.{IsNumeralModel, numerals_by_value, tells_digits, digit_at, digits_value_short}
use Rattle.std.proofs.lemmas.List.{length-take}
use Rattle.fj_lines.specs.Words.{is_number, number_in}

digits : IsNumeralModel (AllDigits 10) (digits_value 10)
digits = numerals_by_value (AllDigits 10) tells_digits

-- what the text of a number below 2 ^ 32 looks like
pub record IsNumberText (word : List ℕ) (n : ℕ) : Type 0 where
  pub some : 0 < length word
  pub short : length word ≤ 10
  pub digits : AllDigits 10 word
  pub no_zero : 1 < length word → 48 < get_or word 0 0
  pub value : digits_value 10 word ≡ n

no_zero_first : (n : ℕ) → n < 2 ^ 32 → 1 < length (decimal n) → 48 < get_or (decimal n) 0 0
no_zero_first n small long =
    elim (cases_lt 0 n) [
      | inl lt ↦ first_decimal n lt (omega arith)
      | inr le ↦
          let one : length (decimal n) ≡ 1 = ap length (decimal_digit n (omega arith)) in
          absurd (omega arith)
    ]

pub number_text : (n : ℕ) → n < 2 ^ 32 → IsNumberText (decimal n) n
number_text n small =
    let numeral : IsNumeral 10 (decimal n) × (digits_value 10 (decimal n) ≡ n) = decimal_is_IsNumeral n (omega arith) in
    record {
      some = numeral.0.0;
      short = length-decimal-le 10 n (omega arith) (omega arith) (omega arith);
      digits = numeral.0.1;
      no_zero = no_zero_first n small;
      value = numeral.1;
    }

pub both_parts : (s t : Bool) → (s && t) ≡ true → (s ≡ true) × (t ≡ true)
both_parts true t e = (refl, e)
both_parts false t e = absurd cc

some_if : (test : Bool) (n m : ℕ) → cond test (Some n) None ≡ Some m → (test ≡ true) × (n ≡ m)
some_if true n m e = (refl, cc)
some_if false n m e = absurd cc

none_if : (test : Bool) (n : ℕ) → (test ≡ true → ⊥) → cond test (Some n) None ≡ None
none_if true n h = absurd (h refl)
none_if false n h = refl

is_text : (word : List ℕ) → is_number word ≡ true → (digits_value 10 word < 2 ^ 32) × (word ≡ decimal (digits_value 10 word))
is_text word e =
    let both = both_parts (ltb (digits_value 10 word) (2 ^ 32)) (bytes_eq word (decimal (digits_value 10 word))) e in
    (ltb-true _ _ both.0, (bytes_eq-Decides word (decimal (digits_value 10 word))).0 both.1)

-- a word that is read as a number is the number's text
pub number_found : (word : List ℕ) (n : ℕ) → number_in word ≡ Some n → (n < 2 ^ 32) × (word ≡ decimal n)
unfolding number_in
number_found word n e =
    let found = some_if (is_number word) (digits_value 10 word) n e in
    let text = is_text word found.0 in
    (rw (← found.1) text.0, text.1 ∙ ap decimal found.1)

number_is : (word : List ℕ) (n : ℕ) → n < 2 ^ 32 → word ≡ decimal n → digits_value 10 word ≡ n → number_in word ≡ Some n
unfolding number_in
number_is word n small is value =
    let equal : bytes_eq word (decimal n) ≡ true = (bytes_eq-Decides word (decimal n)).1 is in
    rw (value, lt-ltb n (2 ^ 32) small, equal) refl

-- the text of a number is read as that number
pub number_again : (n : ℕ) → n < 2 ^ 32 → number_in (decimal n) ≡ Some n
number_again n small = number_is (decimal n) n small refl (number_text n small).value

-- a word is no number, if it looks like the text of none
pub no_number : (word : List ℕ) → ((n : ℕ) → n < 2 ^ 32 → IsNumberText word n → ⊥) → number_in word ≡ None
unfolding number_in
no_number word none =
    none_if (is_number word) (digits_value 10 word) (λ e.
    let text = is_text word e in
    none (digits_value 10 word) text.0 (subst (λ (w : List ℕ). IsNumberText w (digits_value 10 word)) (sym text.1) (number_text (digits_value 10 word) text.0)))

-- ---- the ways in which a word is no number

pub no_number_empty : (word : List ℕ) → length word ≡ 0 → number_in word ≡ None
no_number_empty word e = no_number word (λ n small text. let some = text.some in omega arith)

pub no_number_long : (word : List ℕ) → 10 < length word → number_in word ≡ None
no_number_long word long = no_number word (λ n small text. let short = text.short in omega arith)

pub no_number_zeros : (word : List ℕ) → get_or word 0 0 ≡ 48 → 1 < length word → number_in word ≡ None
no_number_zeros word zero long = no_number word (λ n small text. let no = text.no_zero long in omega arith)

pub no_number_other : (word : List ℕ) (i : ℕ) → i < length word → (IsInRange 48 57 (get_or word i 0) → ⊥) → number_in word ≡ None
no_number_other word i lt other = no_number word (λ n small text. other (digit_at word i text.digits lt))

pub no_number_large : (word : List ℕ) → 2 ^ 32 ≤ digits_value 10 word → number_in word ≡ None
no_number_large word large = no_number word (λ n small text. let value = text.value in omega arith)

-- digits without a leading zero are the number that they write
pub number_of_digits : (word : List ℕ) → AllDigits 10 word → 0 < length word → (get_or word 0 0 ≡ 48 → length word ≤ 1) → digits_value 10 word < 2 ^ 32 → number_in word ≡ Some (digits_value 10 word)
number_of_digits word all some no_zero small =
    let text : decimal (digits_value 10 word) ≡ word = decimal-digits_value digits word all some (λ zero. let short = no_zero zero in omega arith) (omega arith) in
    number_is word (digits_value 10 word) small (sym text) refl

-- what few digits write is small
pub few_digits : (word : List ℕ) (i : ℕ) → length word ≤ 10 → AllDigits 10 (take i word) → digits_value 10 (take i word) < 10 ^ 10
few_digits word i few all = digits_value_short digits (take i word) 10 all (omega (arith, length-take i word))

pub some_bytes : (word : List ℕ) (empty : Bool) → empty ≡ eqb (length word) 0 → empty ≡ false → 0 < length word
some_bytes [] empty is e = absurd cc
some_bytes (b ∷ word) empty is e = omega arith

pub large : (value number : ℕ) → value ≡ number → (value < 2 ^ 32 → ⊥) → 2 ^ 32 ≤ number
large value number is not_small =
    elim (cases_lt value (2 ^ 32)) [
      | inl lt ↦ absurd (not_small lt)
      | inr le ↦ omega arith
    ]
