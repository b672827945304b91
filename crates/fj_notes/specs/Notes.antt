-- The lines of notes: how a task is called, and when it came to a milestone.
use Rattle.std.specs.Prelude.{ℕ, ◌^◌, ◌<◌, List, [], ◌∷◌, ◌++◌, Option, flat_map, codes, decimal}
use Rattle.fj_lines.specs.declared.read.TheConstants.{LINE_FEED}
use Rattle.fj_lines.specs.Words.{joined, words, ◌>>=◌, word_first}
use Rattle.fj_lines.specs.Tasks.{IsSmall}
use Rattle.fj_notes.specs.declared.milestone.Milestone.{Milestone}
use Rattle.fj_notes.specs.declared.milestone.Milestone.TheVariants.{Begin, End, Fire, Hooked}
use Rattle.fj_notes.specs.declared.note.Note.{Note}
use Rattle.fj_notes.specs.declared.note.Note.TheVariants.{Name, Time}
use Rattle.fj_notes.specs.Labels.{IsLabel}
use Rattle.fj_notes.specs.NoteReadings.{note_said}

abbrev pub milestone_word : Milestone → List ℕ
milestone_word Begin = codes "begin"
milestone_word End = codes "end"
milestone_word Fire = codes "fire"
milestone_word Hooked = codes "hooked"

-- the parts of a line: a label comes last, since it may have spaces
abbrev pub note_parts : Note → List (List ℕ)
note_parts (Name t label) = codes "name" ∷ decimal t ∷ label ∷ []
note_parts (Time t milestone nanos) = codes "time" ∷ decimal t ∷ milestone_word milestone ∷ decimal nanos ∷ []

-- the line of a note, without its line feed
abbrev pub note_line : Note → List ℕ
note_line note = joined (note_parts note)

-- the lines of notes, each with its line feed
abbrev pub notes_text : List Note → List ℕ
notes_text notes = flat_map (λ n. note_line n ++ LINE_FEED ∷ []) notes

-- what has a line: a task has 32 bits at most, as in scripts, a time 64
abbrev pub HasNoteLine : Note → Type 0
HasNoteLine (Name t label) = IsSmall t × IsLabel label
HasNoteLine (Time t milestone nanos) = IsSmall t × (nanos < 2 ^ 64)

abbrev pub AllHaveLines : List Note → Type 0
AllHaveLines [] = Unit {0}
AllHaveLines (n ∷ ns) = HasNoteLine n × AllHaveLines ns

-- the note of a line, if it has one: the result of the reader
unfoldable pub note_in : List ℕ → Option Note
note_in line = do
  verb ← word_first (words line)
  note_said verb.0 verb.1
