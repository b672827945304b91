-- The words of a line, cut off one after the other.
use Rattle.std.proofs.Common.{◌≡◌, ℕ, suc, ◌+◌, ◌-◌, Bool, true, false, eqb, ltb, cond, List, [], ◌∷◌, ◌++◌, length, take, drop, refl, sym, ap, ◌∙◌, arith, inl, inr, ◌≤◌, ◌<◌, ◌^◌, length-append}
use Rattle.std.specs.Prelude.{not, Option, Some, None, unwrap_or}
use Rattle.std.specs.List.{slice_split, onto_first, position_or_len, list_all}
use Rattle.std.proofs.lemmas.Bool.{cases_lt, lt-ltb, le-ltb}
use Rattle.std.proofs.lemmas.List.Sums.{prefix_len-le-length}
use Rattle.std.specs.Fmt.{decimal}
use Rattle.std.specs.Int.{IsInRange}
use Rattle.std.specs.Str.Parse.{AllDigits}
use Rattle.std.proofs.lemmas.Bool.Decides.{nat_tests}
use Rattle.std.proofs.lemmas.List.Splits.{join_with_byte-slice_split}
use Rattle.std.proofs.lemmas.Str.Parse.{digit_from_value}
use Rattle.fj_lines.proofs.Reading.NumberLaws.{both_parts, number_text}
use Rattle.fj_lines.specs.Words.{words, words_behind, is_last, joined}

abbrev pub is_space : ℕ → Bool
is_space b = eqb b 32

no_space : (b : ℕ) → not (is_space b) ≡ true → is_space b ≡ false
no_space b e = go (is_space b) e
  where
    go : (t : Bool) → not t ≡ true → t ≡ false
    go true h = absurd cc
    go false h = refl

some_word_at : (space : Bool) (b : ℕ) (ws : List (List ℕ)) → is_last (cond space ([] ∷ ws) (onto_first b ws)) ≡ false
some_word_at true b ws = refl
some_word_at false b [] = refl
some_word_at false b (w ∷ ws) = refl

-- a line has a word, be it an empty one
some_word : (line : List ℕ) → is_last (words line) ≡ false
unfolding words
some_word [] = refl
some_word (b ∷ line) = some_word_at (is_space b) b (slice_split is_space line)

-- behind a word no word is left where no byte is left
pub is_last_at : (behind : List ℕ) (empty : Bool) → empty ≡ eqb (length behind) 0 → empty ≡ is_last (words_behind behind)
is_last_at [] empty is = is
is_last_at (b ∷ line) empty is =
    let no : eqb (length (b ∷ line)) 0 ≡ false = grind (arith, nat_tests) in
    is ∙ no ∙ sym (some_word line)

-- ---- the first word

-- the first place of a space, or the length
pub first_place : (line : List ℕ) (found : Option ℕ) (place : ℕ) → found ≡ cond (ltb (position_or_len is_space line) (length line)) (Some (position_or_len is_space line)) None
    → place ≡ unwrap_or found (length line) → place ≡ position_or_len is_space line
first_place line found place is given =
    elim (cases_lt (position_or_len is_space line) (length line)) [
      | inl lt ↦ given ∙ rw (is, lt-ltb _ _ lt) refl
      | inr le ↦
          let few = prefix_len-le-length (λ b. not (is_space b)) line in
          let all : length line ≡ position_or_len is_space line = omega arith in
          given ∙ rw (is, le-ltb _ _ le) all
    ]

pub first_place-le : (line : List ℕ) → position_or_len is_space line ≤ length line
first_place-le line = prefix_len-le-length (λ b. not (is_space b)) line

cut_at : (space : Bool) (b : ℕ) (line : List ℕ) (n : ℕ) → words line ≡ take n line ∷ words_behind (drop n line)
    → cond space ([] ∷ words line) (onto_first b (words line)) ≡ take (cond (not space) (1 + n) 0) (b ∷ line) ∷ words_behind (drop (cond (not space) (1 + n) 0) (b ∷ line))
cut_at true b line n later = refl
cut_at false b line n later =
    let next : 1 + n ≡ suc n = omega arith in
    rw (next, later) refl

-- the first word ends at the first space
pub words_cut : (line : List ℕ) → words line ≡ take (position_or_len is_space line) line ∷ words_behind (drop (position_or_len is_space line) line)
unfolding words
words_cut [] = refl
words_cut (b ∷ line) = cut_at (is_space b) b line (position_or_len is_space line) (words_cut line)

-- ---- the words of a line that words make

-- the word has no space in it
abbrev pub is_word : List ℕ → Bool
is_word w = list_all (λ b. not (is_space b)) w

split_one : (w : List ℕ) → is_word w ≡ true → words w ≡ w ∷ []
unfolding words
split_one [] all = refl
split_one (b ∷ w) all =
    let both = both_parts (not (is_space b)) (is_word w) all in
    rw (no_space b both.0, split_one w both.1) refl

split_more : (w line : List ℕ) → is_word w ≡ true → words (w ++ 32 ∷ line) ≡ w ∷ words line
unfolding words
split_more [] line all = refl
split_more (b ∷ w) line all =
    let both = both_parts (not (is_space b)) (is_word w) all in
    rw (no_space b both.0, split_more w line both.1) refl

-- words without spaces are the words of their line
pub words_again : (w : List ℕ) (ws : List (List ℕ)) → list_all is_word (w ∷ ws) ≡ true → words (joined (w ∷ ws)) ≡ w ∷ ws
words_again w [] all = split_one w (both_parts (is_word w) true all).0
words_again w (v ∷ ws) all =
    let both = both_parts (is_word w) (list_all is_word (v ∷ ws)) all in
    split_more w (joined (v ∷ ws)) both.0 ∙ ap (λ (rest : List (List ℕ)). w ∷ rest) (words_again v ws both.1)

-- a line is made of its words
pub joined_words : (line : List ℕ) → joined (words line) ≡ line
unfolding words
joined_words line = join_with_byte-slice_split 32 line

-- the bytes of words, and one behind each
abbrev pub lengths : List (List ℕ) → ℕ
lengths [] = 0
lengths (w ∷ ws) = length w + 1 + lengths ws

-- the line of words has one space fewer than words
pub length-joined-le : (ws : List (List ℕ)) → length (joined ws) ≤ lengths ws - 1
length-joined-le [] = omega arith
length-joined-le (w ∷ []) = omega arith
length-joined-le (w ∷ v ∷ ws) =
    let rest = length-joined-le (v ∷ ws) in
    let whole : length (w ++ 32 ∷ joined (v ∷ ws)) ≡ length w + length (32 ∷ joined (v ∷ ws)) = length-append w (32 ∷ joined (v ∷ ws)) in
    omega arith

-- ---- digits are a word

digits_are_word : (w : List ℕ) → AllDigits 10 w → is_word w ≡ true
digits_are_word [] all = refl
digits_are_word (c ∷ w) all =
    let digit : IsInRange 48 57 c = digit_from_value c all.0 in
    let other : is_space c ≡ false = grind (arith, nat_tests) in
    rw (other, digits_are_word w all.1) refl

pub number_is_word : (n : ℕ) → n < 2 ^ 32 → is_word (decimal n) ≡ true
number_is_word n small = digits_are_word (decimal n) (number_text n small).digits

-- ---- texts of numbers, of which a line is made

pub one_is_words : (a : ℕ) → a < 2 ^ 32 → list_all is_word (decimal a ∷ []) ≡ true
one_is_words a a_small =
    let first = number_is_word a a_small in
    rw first refl

pub two_are_words : (a b : ℕ) → a < 2 ^ 32 → b < 2 ^ 32 → list_all is_word (decimal a ∷ decimal b ∷ []) ≡ true
two_are_words a b a_small b_small =
    let first = number_is_word a a_small in
    rw (first, one_is_words b b_small) refl
