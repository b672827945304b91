-- What is known after notes were to be written. Which notes they are depends on the threads that took them.
use Rattle.std.specs.Prelude.{ℕ, ◌≡◌, List, ◌++◌, Option, Result}
use Rattle.fj_streams.specs.Calls.{Calls}
use Rattle.fj_record.specs.declared.fault.WriteFault.{WriteFault}
use Rattle.fj_record.specs.Writes.{Writes}
use Rattle.fj_notes.specs.declared.note.Note.{Note}
use Rattle.fj_notes.specs.Notes.{AllHaveLines, notes_text}

-- the lines of some notes were appended
abbrev pub PushesNotes : List ℕ → List ℕ → Type 0
PushesNotes old new = (notes : List Note) × (AllHaveLines notes × (new ≡ old ++ notes_text notes))

-- at Ok the lines of some notes were written, else a beginning of such, for this fault
abbrev pub WritesNotes : {A : Type 0} → Result A WriteFault → Option (List ℕ) → Option (List ℕ) → Option Calls → Option Calls → Type 0
WritesNotes result bytes bytes_after calls calls_after = (notes : List Note) × (AllHaveLines notes × Writes result bytes bytes_after calls calls_after (notes_text notes))
