-- Names, as words of a line.
use Rattle.std.proofs.Common.{◌≡◌, ℕ, ◌≤◌, ◌<◌, Bool, true, false, ◌&&◌, ◌||◌, eqb, List, [], ◌∷◌, length, Some, None, refl, sym, ap, subst, ◌∙◌, arith, inl, inr}
use Rattle.std.specs.Prelude.{codes, nat_le}
use Rattle.std.specs.List.{list_all}
use Rattle.std.specs.Str.{IsAscii, IsUtf8, bytes_eq}
use Rattle.std.proofs.lemmas.Str.{IsUtf8-from_ascii}
use Rattle.std.proofs.lemmas.Str.Ascii.{IsAscii-nil, IsAscii-cons}
use Rattle.std.proofs.lemmas.Bool.{and_parts, or_cases, eqb-true, leb-true}
use Rattle.std.proofs.lemmas.Bool.Decides.{nat_tests}
use Rattle.fj_lines.specs.declared.name.TheConstants.{MAX_NAME}
use Rattle.fj_lines.specs.Names.{is_letter, is_name_byte, is_name, IsName}
use Rattle.fj_lines.specs.Readings.Tasks.{name_in}
use Rattle.fj_lines.proofs.Reading.WordLaws.{is_space, is_word}
use Rattle.fj_lines.proofs.Reading.PartLaws.{some_is, chosen, is_text}

-- ---- a name is one word

letter_no_space : (b : ℕ) → is_letter b ≡ true → is_space b ≡ false
letter_no_space b is =
    let least = leb-true 97 b (and_parts (nat_le 97 b) (nat_le b 122) is).0 in
    grind (arith, nat_tests)

digit_no_space : (b : ℕ) → (nat_le 48 b && nat_le b 57) ≡ true → is_space b ≡ false
digit_no_space b is =
    let least = leb-true 48 b (and_parts (nat_le 48 b) (nat_le b 57) is).0 in
    grind (arith, nat_tests)

line_no_space : (b : ℕ) → eqb b 95 ≡ true → is_space b ≡ false
line_no_space b is =
    let same = eqb-true b 95 is in
    grind (arith, nat_tests)

byte_no_space : (b : ℕ) → is_name_byte b ≡ true → is_space b ≡ false
byte_no_space b is =
    elim (or_cases (is_letter b) ((nat_le 48 b && nat_le b 57) || eqb b 95) is) [
      | inl letter ↦ letter_no_space b letter
      | inr other ↦ elim (or_cases (nat_le 48 b && nat_le b 57) (eqb b 95) other) [
        | inl digit ↦ digit_no_space b digit
        | inr line ↦ line_no_space b line
      ]
    ]

bytes_are_word : (bs : List ℕ) → list_all is_name_byte bs ≡ true → is_word bs ≡ true
bytes_are_word [] all = refl
bytes_are_word (b ∷ bs) all =
    let both = and_parts (is_name_byte b) (list_all is_name_byte bs) all in
    rw (byte_no_space b both.0, bytes_are_word bs both.1) refl

pub name_is_word : (name : List ℕ) → IsName name → is_word name ≡ true
name_is_word [] is = absurd cc
name_is_word (b ∷ bs) is =
    let first = and_parts (is_letter b) (nat_le (length (b ∷ bs)) MAX_NAME && list_all is_name_byte bs) is in
    let others = and_parts (nat_le (length (b ∷ bs)) MAX_NAME) (list_all is_name_byte bs) first.1 in
    rw (letter_no_space b first.0, bytes_are_word bs others.1) refl

pub name_len : (name : List ℕ) → IsName name → length name ≤ 16
name_len [] is = absurd cc
name_len (b ∷ bs) is =
    let first = and_parts (is_letter b) (nat_le (length (b ∷ bs)) MAX_NAME && list_all is_name_byte bs) is in
    let others = and_parts (nat_le (length (b ∷ bs)) MAX_NAME) (list_all is_name_byte bs) first.1 in
    leb-true (length (b ∷ bs)) MAX_NAME others.0

-- ---- a name is text

byte_ascii : (b : ℕ) → is_name_byte b ≡ true → b < 128
byte_ascii b is =
    elim (or_cases (is_letter b) ((nat_le 48 b && nat_le b 57) || eqb b 95) is) [
      | inl letter ↦ let most = leb-true b 122 (and_parts (nat_le 97 b) (nat_le b 122) letter).1 in omega arith
      | inr other ↦ elim (or_cases (nat_le 48 b && nat_le b 57) (eqb b 95) other) [
        | inl digit ↦ let most = leb-true b 57 (and_parts (nat_le 48 b) (nat_le b 57) digit).1 in omega arith
        | inr line ↦ let same = eqb-true b 95 line in omega arith
      ]
    ]

bytes_ascii : (bs : List ℕ) → list_all is_name_byte bs ≡ true → IsAscii bs
bytes_ascii [] all = IsAscii-nil
bytes_ascii (b ∷ bs) all =
    let both = and_parts (is_name_byte b) (list_all is_name_byte bs) all in
    IsAscii-cons b bs (byte_ascii b both.0) (bytes_ascii bs both.1)

name_ascii : (name : List ℕ) → IsName name → IsAscii name
name_ascii [] is = absurd cc
name_ascii (b ∷ bs) is =
    let first = and_parts (is_letter b) (nat_le (length (b ∷ bs)) MAX_NAME && list_all is_name_byte bs) is in
    let others = and_parts (nat_le (length (b ∷ bs)) MAX_NAME) (list_all is_name_byte bs) first.1 in
    let most = leb-true b 122 (and_parts (nat_le 97 b) (nat_le b 122) first.0).1 in
    IsAscii-cons b bs (omega arith) (bytes_ascii bs others.1)

pub name_utf8 : (name : List ℕ) → IsName name → IsUtf8 name
name_utf8 name is = IsUtf8-from_ascii name (name_ascii name is)

-- a dash is no name
pub name_no_dash : (name : List ℕ) (dash : Bool) → IsName name → dash ≡ bytes_eq name (codes "-") → dash ≡ false
name_no_dash name true is same =
    let dash : is_name (codes "-") ≡ true = ap is_name (sym (is_text name (codes "-") (sym same))) ∙ is in
    absurd cc
name_no_dash name false is same = refl

-- ---- reading one

pub name_found : (word name : List ℕ) → name_in word ≡ Some name → IsName name × (word ≡ name)
unfolding name_in
name_found word name e =
    chosen (is_name word) (Some word) None (Some name) e
    (λ yes is. let same = some_is word name is in (subst (λ (w : List ℕ). IsName w) same yes, same))
    (λ none. absurd cc)

pub name_again : (name : List ℕ) → IsName name → name_in name ≡ Some name
unfolding name_in
name_again name is = rw is refl
