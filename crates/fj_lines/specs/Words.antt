-- The words of a line: one space between each two of them, none before the first or after the last.
use Rattle.std.specs.Prelude.{ℕ, Bool, true, false, ◌≡◌, ◌^◌, ◌==◌, ◌&&◌, nat_lt, if◌then◌else◌, List, [], ◌∷◌, Option, Some, None, Result, MatchResult, decimal}
use Rattle.std.specs.List.{slice_split, join_with_byte}
use Rattle.std.specs.Str.{bytes_eq}
use Rattle.std.specs.Str.Parse.{AllDigits, digits_value}
use Rattle.fj_lines.specs.declared.read.words.TheConstants.{SPACE}

-- the line that these words make
abbrev pub joined : List (List ℕ) → List ℕ
joined ws = join_with_byte SPACE ws

-- the words of a line
unfoldable pub words : List ℕ → List (List ℕ)
words line = slice_split (λ b. b == SPACE) line

-- the words after a word: nothing, or a space and words
abbrev pub words_behind : List ℕ → List (List ℕ)
words_behind [] = []
words_behind (space ∷ line) = words line

-- whether a word is the decimal text of a number below 2 ^ 32
abbrev pub is_number : List ℕ → Bool
is_number word = nat_lt (digits_value 10 word) (2 ^ 32) && bytes_eq word (decimal (digits_value 10 word))

-- the number of such a word
unfoldable pub number_in : List ℕ → Option ℕ
number_in word = if is_number word then Some (digits_value 10 word) else None

-- the result of a reader: the value, and a fault exactly where there is none
abbrev pub Reads : {A E : Type 0} → Option A → Result A E → Type 0
Reads said result = MatchResult result (λ x. said ≡ Some x) (λ _. said ≡ None)

-- the same of a reader whose result means the value
abbrev pub ReadsAs : {A B E : Type 0} → (B → A) → Option A → Result B E → Type 0
ReadsAs meaning said result = MatchResult result (λ x. said ≡ Some (meaning x)) (λ _. said ≡ None)

-- a fault exactly where this is false
abbrev pub IsOkIf : {A E : Type 0} → Bool → Result A E → Type 0
IsOkIf test result = MatchResult result (λ _. test ≡ true) (λ _. test ≡ false)

-- the value of a word's digits; a fault only where it is no number
abbrev pub ReadsDigits : {E : Type 0} → List ℕ → Result ℕ E → Type 0
ReadsDigits word result = MatchResult result (λ value. AllDigits 10 word × (value ≡ digits_value 10 word)) (λ _. number_in word ≡ None)

-- ---- reading words in order: these mirror the reader

infixl 10 ◌>>=◌
abbrev pub ◌>>=◌ : {A B : Type 0} → Option A → (A → Option B) → Option B
Some x >>= f = f x
None >>= f = None

-- the first word, and those after it
abbrev pub word_first : List (List ℕ) → Option (List ℕ × List (List ℕ))
word_first [] = None
word_first (word ∷ ws) = Some (word, ws)

-- the number in the first word, and the words after it
abbrev pub number_first : List (List ℕ) → Option (ℕ × List (List ℕ))
number_first [] = None
number_first (word ∷ ws) = do
  n ← number_in word
  Some (n, ws)

-- whether no word is left
abbrev pub is_last : List (List ℕ) → Bool
is_last [] = true
is_last (word ∷ ws) = false

-- the value, where no word is left
abbrev pub if_last : {A : Type 0} → List (List ℕ) → A → Option A
if_last ws x = if is_last ws then Some x else None

-- ---- numbers, where no word is left after them

unfoldable pub one_number : List (List ℕ) → Option ℕ
one_number ws = do
  a ← number_first ws
  if_last a.1 a.0

unfoldable pub two_numbers : List (List ℕ) → Option (ℕ × ℕ)
two_numbers ws = do
  a ← number_first ws
  b ← number_first a.1
  if_last b.1 (a.0, b.0)
