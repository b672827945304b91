-- What the words of a line of notes mean, word by word. These mirror the reader, for its proof. `Notes` defines which lines there are;
-- `written`, `read` and `again` of `read_note` say that these agree with it.
use Rattle.std.specs.Prelude.{ℕ, Bool, ◌^◌, ◌&&◌, nat_lt, if◌then◌else◌, List, [], ◌∷◌, Option, Some, None, codes, decimal}
use Rattle.std.specs.Str.{bytes_eq}
use Rattle.std.specs.Str.Parse.{digits_value}
use Rattle.fj_lines.specs.Words.{joined, ◌>>=◌, word_first, number_first, if_last}
use Rattle.fj_notes.specs.declared.milestone.Milestone.{Milestone}
use Rattle.fj_notes.specs.declared.milestone.Milestone.TheVariants.{Begin, End, Fire, Hooked}
use Rattle.fj_notes.specs.declared.note.Note.{Note}
use Rattle.fj_notes.specs.declared.note.Note.TheVariants.{Name, Time}
use Rattle.fj_notes.specs.Labels.{is_label}

-- ---- parts

-- whether a word is the decimal text of a number below 2 ^ 64
abbrev pub is_nanos : List ℕ → Bool
is_nanos word = nat_lt (digits_value 10 word) (2 ^ 64) && bytes_eq word (decimal (digits_value 10 word))

-- the number of such a word
unfoldable pub nanos_in : List ℕ → Option ℕ
nanos_in word = if is_nanos word then Some (digits_value 10 word) else None

abbrev pub milestone_said : List ℕ → Option Milestone
milestone_said word =
    if bytes_eq word (codes "begin") then Some Begin
    else if bytes_eq word (codes "end") then Some End
    else if bytes_eq word (codes "fire") then Some Fire
    else if bytes_eq word (codes "hooked") then Some Hooked
    else None

-- a label is all that is left of the line
abbrev pub label_in : List ℕ → Option (List ℕ)
label_in text = if is_label text then Some text else None

abbrev pub label_said : List (List ℕ) → Option (List ℕ)
label_said [] = None
label_said (word ∷ ws) = label_in (joined (word ∷ ws))

-- ---- lines, by the words after the first

unfoldable pub name_in : List (List ℕ) → Option Note
name_in ws = do
  t ← number_first ws
  label ← label_said t.1
  Some (Name t.0 label)

unfoldable pub time_in : List (List ℕ) → Option Note
time_in ws = do
  t ← number_first ws
  word ← word_first t.1
  milestone ← milestone_said word.0
  number ← word_first word.1
  nanos ← nanos_in number.0
  if_last number.1 (Time t.0 milestone nanos)

-- the note of a first word and those after it, if it is a line
unfoldable pub note_said : List ℕ → List (List ℕ) → Option Note
note_said verb ws =
    if bytes_eq verb (codes "name") then name_in ws
    else if bytes_eq verb (codes "time") then time_in ws
    else None
