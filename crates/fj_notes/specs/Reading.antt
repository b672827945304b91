-- Reading notes to the end of an input: each line is a note.
use Rattle.std.specs.Prelude.{ℕ, ◌≡◌, ◌≢◌, ◌+◌, ◌<◌, ◌⊎◌, ⊤, ◌&&◌, nat_le, true, is_some, if◌then◌else◌, List, [], ◌∷◌, ◌++◌, Option, Some, None, length, map}
use Rattle.std.specs.Io.KnownBytes.{Consumes, IsAtEnd}
use Rattle.fj_lines.specs.declared.read.fault.LineFault.{LineFault}
use Rattle.fj_streams.specs.Cuts.{lines, rest}
use Rattle.fj_streams.specs.Rules.{Rules}
use Rattle.fj_streams.specs.declared.fault.FilterFault.{FilterFault}
use Rattle.fj_streams.specs.declared.fault.FilterFault.TheVariants as filter
use Rattle.fj_notes.specs.declared.note.Note.{Note}
use Rattle.fj_notes.specs.declared.fault.NotesFault.{NotesFault}
use Rattle.fj_notes.specs.declared.fault.NotesFault.TheVariants.{Line, Memory, Read}
use Rattle.fj_notes.specs.declared.read.TheConstants.{MAX_NOTE}
use Rattle.fj_notes.specs.Notes.{AllHaveLines, note_in, note_line}

-- these are the lines of notes
abbrev pub AreNotes : List (List ℕ) → Type 0
AreNotes ls = (notes : List Note) × (ls ≡ map note_line notes) × AllHaveLines notes

-- the whole input was read, and its lines are notes
pub record AreNotesOf (before ahead : Option (List ℕ)) : Type 0 where
  pub bytes : List ℕ
  pub read : Consumes before ahead bytes
  pub whole : IsAtEnd ahead
  pub notes : AreNotes (lines bytes)
  pub ended : rest bytes ≡ []

-- the line behind those that are whole, or the end of the input, is at fault: it is no note, or the input ends within it
abbrev pub IsWrong : List (List ℕ) → List ℕ → Option (List ℕ) → Type 0
IsWrong (line ∷ later) rest ahead = note_in line ≡ None
IsWrong [] rest ahead = (MAX_NOTE < length rest) ⊎ (IsAtEnd ahead × (rest ≢ []))

-- the lines before the one with this number are notes, and this one is at fault
pub record IsFaulty (n : ℕ) (b : List ℕ) (ahead : Option (List ℕ)) : Type 0 where
  pub before : List (List ℕ)
  pub behind : List (List ℕ)
  pub cut : lines b ≡ before ++ behind
  pub number : n ≡ length before + 1
  pub good : AreNotes before
  pub wrong : IsWrong behind (rest b) ahead

abbrev pub FaultMeans : NotesFault → List ℕ → Option (List ℕ) → Type 0
FaultMeans (Line n) b ahead = IsFaulty n b ahead
FaultMeans Memory b ahead = ⊤
FaultMeans Read b ahead = AreNotes (lines b)

-- some bytes were read, and this is what the fault says of them
abbrev pub StopsNotes : Option (List ℕ) → Option (List ℕ) → NotesFault → Type 0
StopsNotes before ahead fault = (b : List ℕ) × Consumes before ahead b × FaultMeans fault b ahead

-- ---- as a filter

-- the state has no value: each line is a note, whatever came before
abbrev pub note_rules : Rules ⊤ LineFault
note_rules = record {
  after = λ state line. if (nat_le (length line) MAX_NOTE && is_some (note_in line)) then Some tt else None;
  text = λ state line. [];
  Stops = λ state line stop. note_in line ≡ None;
  has_heading = λ state. true;
  longest = MAX_NOTE;
}

-- the fault of a reading, by that of its filter
abbrev pub notes_fault : FilterFault LineFault → NotesFault
notes_fault (filter.Stop n stop) = Line n
notes_fault (filter.Line n) = Line n
notes_fault filter.Memory = Memory
notes_fault filter.Read = Read
notes_fault filter.Write = Memory
