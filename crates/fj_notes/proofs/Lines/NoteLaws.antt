-- A line that is read as a note is the line of that note, and the line of a note is read as that note. It is short.
use Rattle.std.proofs.Common.{◌≡◌, ℕ, ◌+◌, ◌≤◌, List, ◌∷◌, length, Some, sym, ap, ◌∙◌, arith}
use Rattle.std.specs.Prelude.{Result, Ok, Err, IfOk, OnOk}
use Rattle.fj_lines.specs.declared.read.fault.LineFault.{LineFault}
use Rattle.fj_lines.specs.Words.{joined, words, Reads}
use Rattle.fj_lines.proofs.Reading.LineLaws.{number_len}
use Rattle.fj_lines.proofs.Reading.WordLaws.{joined_words, lengths, length-joined-le}
use Rattle.fj_lines.proofs.Reading.PartLaws.{word_then, told}
use Rattle.fj_notes.specs.declared.note.Note.{Note}
use Rattle.fj_notes.specs.declared.note.Note.TheVariants.{Name, Time}
use Rattle.fj_notes.specs.declared.read.TheConstants.{MAX_NOTE}
use Rattle.fj_notes.specs.Notes.{note_parts, note_line, note_in, HasNoteLine}
use Rattle.fj_notes.specs.NoteReadings.{note_said}
use Rattle.fj_notes.proofs.Labels.{label_len}
use Rattle.fj_notes.proofs.Lines.NanosLaws.{nanos_len}
use Rattle.fj_notes.proofs.Lines.PartLaws.{milestone_len}
use Rattle.fj_notes.proofs.Lines.NoteFound.{said_found}
use Rattle.fj_notes.proofs.Lines.NoteAgain.{note_again}

-- a line that is read is the line of what it is read as
pub note_found : (line : List ℕ) (n : Note) → note_in line ≡ Some n → HasNoteLine n × (line ≡ note_line n)
unfolding note_in
note_found line n is =
    word_then (words line) (λ verb. note_said verb.0 verb.1) n is (λ verb rest all said.
    let found = said_found verb rest n said in
    (found.0, sym (joined_words line) ∙ ap joined all ∙ found.1))

parts_short : (n : Note) → HasNoteLine n → lengths (note_parts n) ≤ MAX_NOTE + 1
parts_short (Name t label) fits = omega (arith, number_len t fits.0, label_len label fits.1)
parts_short (Time t m nanos) fits = omega (arith, number_len t fits.0, milestone_len m, nanos_len nanos fits.1)

pub note_short : (n : Note) → HasNoteLine n → length (note_line n) ≤ MAX_NOTE
note_short n fits = omega (arith, length-joined-le (note_parts n), parts_short n fits)

-- ---- what a reader of lines answers

pub note_tells : (line verb : List ℕ) (ws : List (List ℕ)) (result : Result Note LineFault) → words line ≡ verb ∷ ws → Reads (note_said verb ws) result → Reads (note_in line) result
unfolding note_in
note_tells line verb ws result all tells = rw all tells

pub note_written : (line : List ℕ) (result : Result Note LineFault) → Reads (note_in line) result → IfOk result (λ n. HasNoteLine n × (line ≡ note_line n))
note_written line (Ok n) tells = note_found line n tells
note_written line (Err fault) tells = tt

pub note_read : (line : List ℕ) (result : Result Note LineFault) → Reads (note_in line) result → (n : Note) → HasNoteLine n → line ≡ note_line n → result ≡ Ok n
note_read line result tells n fits is = told (note_in line) n result (ap note_in is ∙ note_again n fits) tells

pub note_read_short : (line : List ℕ) (result : Result Note LineFault) → Reads (note_in line) result → OnOk result (length line ≤ MAX_NOTE)
note_read_short line (Ok n) tells =
    let found = note_found line n tells in
    let same = ap length found.1 in
    omega (arith, same, note_short n found.0)
note_read_short line (Err fault) tells = tt
