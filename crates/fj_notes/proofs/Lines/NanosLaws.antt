-- Numbers below 2 ^ 64 and their decimal texts.
use Rattle.std.proofs.Common.{◌≡◌, ℕ, ◌^◌, ◌<◌, ◌≤◌, Bool, true, false, cond, ltb, List, [], ◌∷◌, length, Some, None, refl, sym, ap, subst, ◌∙◌, arith}
use Rattle.std.specs.Prelude.{Result, Ok, Err}
use Rattle.std.specs.Fmt.{decimal}
use Rattle.std.specs.Int.{IsInRange}
use Rattle.std.specs.Str.{IsUtf8, bytes_eq}
use Rattle.std.specs.Str.Parse.{AllDigits, digits_value, ParsesUnsigned}
use Rattle.std.proofs.lemmas.Bool.{lt-ltb, ltb-true}
use Rattle.std.proofs.lemmas.Bool.Decides.{nat_tests}
use Rattle.std.proofs.lemmas.Fmt.{decimal_is_IsNumeral, IsAscii-decimal, parse-decimal, length-decimal-le}
use Rattle.std.proofs.lemmas.Slice.Eq.{bytes_eq-Decides}
use Rattle.std.proofs.lemmas.Str.{IsUtf8-from_ascii}
use Rattle.std.proofs.lemmas.Str.Parse.{digit_from_value}
use Rattle.fj_lines.proofs.Reading.NumberLaws.{both_parts}
use Rattle.fj_lines.proofs.Reading.WordLaws.{is_space, is_word}
use Rattle.fj_notes.specs.NoteReadings.{is_nanos, nanos_in}

some_if : (test : Bool) (n m : ℕ) → cond test (Some n) None ≡ Some m → (test ≡ true) × (n ≡ m)
some_if true n m e = (refl, cc)
some_if false n m e = absurd cc

none_if : (test : Bool) (n : ℕ) → (test ≡ true → ⊥) → cond test (Some n) None ≡ None
none_if true n h = absurd (h refl)
none_if false n h = refl

is_text : (word : List ℕ) → is_nanos word ≡ true → (digits_value 10 word < 2 ^ 64) × (word ≡ decimal (digits_value 10 word))
is_text word e =
    let both = both_parts (ltb (digits_value 10 word) (2 ^ 64)) (bytes_eq word (decimal (digits_value 10 word))) e in
    (ltb-true _ _ both.0, (bytes_eq-Decides word (decimal (digits_value 10 word))).0 both.1)

-- a word that is read as a number is the number's text
pub nanos_found : (word : List ℕ) (n : ℕ) → nanos_in word ≡ Some n → (n < 2 ^ 64) × (word ≡ decimal n)
unfolding nanos_in
nanos_found word n e =
    let found = some_if (is_nanos word) (digits_value 10 word) n e in
    let text = is_text word found.0 in
    (rw (← found.1) text.0, text.1 ∙ ap decimal found.1)

-- the text of a number is read as that number
pub nanos_again : (n : ℕ) → n < 2 ^ 64 → nanos_in (decimal n) ≡ Some n
unfolding nanos_in
nanos_again n small =
    let value = (decimal_is_IsNumeral n small).1 in
    let equal : bytes_eq (decimal n) (decimal n) ≡ true = (bytes_eq-Decides (decimal n) (decimal n)).1 refl in
    rw (value, lt-ltb n (2 ^ 64) small, equal) refl

pub nanos_text : (word : List ℕ) (n : ℕ) → n < 2 ^ 64 → word ≡ decimal n → nanos_in word ≡ Some n
nanos_text word n small is = ap nanos_in is ∙ nanos_again n small

-- ---- the ways in which a word is no number

no_nanos : (word : List ℕ) → ((n : ℕ) → n < 2 ^ 64 → word ≡ decimal n → ⊥) → nanos_in word ≡ None
unfolding nanos_in
no_nanos word none =
    none_if (is_nanos word) (digits_value 10 word) (λ e.
    let text = is_text word e in
    none (digits_value 10 word) text.0 text.1)

pub no_nanos_bytes : (word : List ℕ) → (IsUtf8 word → ⊥) → nanos_in word ≡ None
no_nanos_bytes word other = no_nanos word (λ n small is. other (subst (λ (w : List ℕ). IsUtf8 w) (sym is) (IsUtf8-from_ascii (decimal n) (IsAscii-decimal n small))))

pub no_nanos_parsed : {E : Type 0} (word : List ℕ) (e : E) → ParsesUnsigned 64 10 word (Err e) → nanos_in word ≡ None
no_nanos_parsed {E} word e parsed =
    no_nanos word (λ n small is.
    let read : ◌≡◌ {A = Result ℕ E} (Err e) (Ok n) = parse-decimal 64 n word (Err e) small small is parsed in
    absurd cc)

pub no_nanos_other : {E : Type 0} (word : List ℕ) (v : ℕ) (r : Result ℕ E) → r ≡ Ok v → ParsesUnsigned 64 10 word r → (word ≡ decimal v → ⊥) → nanos_in word ≡ None
no_nanos_other word v r ok parsed other =
    no_nanos word (λ n small is.
    let read : r ≡ Ok n = parse-decimal 64 n word r small small is parsed in
    let same : n ≡ v = cc in
    other (is ∙ ap decimal same))

-- ---- as a word of a line

digits_are_word : (w : List ℕ) → AllDigits 10 w → is_word w ≡ true
digits_are_word [] all = refl
digits_are_word (c ∷ w) all =
    let digit : IsInRange 48 57 c = digit_from_value c all.0 in
    let other : is_space c ≡ false = grind (arith, nat_tests) in
    rw (other, digits_are_word w all.1) refl

pub nanos_is_word : (n : ℕ) → n < 2 ^ 64 → is_word (decimal n) ≡ true
nanos_is_word n small = digits_are_word (decimal n) (decimal_is_IsNumeral n small).0.1

pub nanos_len : (n : ℕ) → n < 2 ^ 64 → length (decimal n) ≤ 20
nanos_len n small = length-decimal-le 20 n (omega arith) (omega arith) (omega arith)
