-- A line that is read as an entry is the line of that entry, and the line of an entry is read as that entry.
use Rattle.std.proofs.Common.{◌≡◌, ℕ, ◌≤◌, List, ◌∷◌, length, Some, sym, ap, ◌∙◌, arith}
use Rattle.std.specs.Prelude.{Result, Ok, Err, IfOk, OnOk}
use Rattle.fj_lines.specs.declared.read.fault.LineFault.{LineFault}
use Rattle.fj_lines.specs.Words.{joined, words, Reads}
use Rattle.fj_lines.proofs.Reading.WordLaws.{joined_words}
use Rattle.fj_lines.proofs.Reading.PartLaws.{word_then, told}
use Rattle.fj_history.specs.declared.entry.Entry.{Entry}
use Rattle.fj_history.specs.declared.read.TheConstants.{MAX_ENTRY}
use Rattle.fj_history.specs.Entries.{entry_line, HasEntryLine, entry_in}
use Rattle.fj_history.specs.EntryReadings.{entry_said}
use Rattle.fj_history.proofs.Entries.EntryFound.{said_found}
use Rattle.fj_history.proofs.Entries.EntryAgain.{entry_again}
use Rattle.fj_history.proofs.Entries.LineLaws.{entry_short}

-- a line that is read is the line of what it is read as
pub entry_found : (line : List ℕ) (e : Entry) → entry_in line ≡ Some e → HasEntryLine e × (line ≡ entry_line e)
unfolding entry_in
entry_found line e is =
    word_then (words line) (λ verb. entry_said verb.0 verb.1) e is (λ verb rest all said.
    let found = said_found verb rest e said in
    (found.0, sym (joined_words line) ∙ ap joined (all ∙ found.1)))

-- ---- what a reader of lines answers

pub entry_tells : (line verb : List ℕ) (ws : List (List ℕ)) (result : Result Entry LineFault) → words line ≡ verb ∷ ws → Reads (entry_said verb ws) result → Reads (entry_in line) result
unfolding entry_in
entry_tells line verb ws result all tells = rw all tells

pub entry_written : (line : List ℕ) (result : Result Entry LineFault) → Reads (entry_in line) result → IfOk result (λ e. HasEntryLine e × (line ≡ entry_line e))
entry_written line (Ok e) tells = entry_found line e tells
entry_written line (Err fault) tells = tt

pub entry_read : (line : List ℕ) (result : Result Entry LineFault) → Reads (entry_in line) result → (e : Entry) → HasEntryLine e → line ≡ entry_line e → result ≡ Ok e
entry_read line result tells e fits is = told (entry_in line) e result (ap entry_in is ∙ entry_again e fits) tells

pub entry_read_short : (line : List ℕ) (result : Result Entry LineFault) → Reads (entry_in line) result → OnOk result (length line ≤ MAX_ENTRY)
entry_read_short line (Ok e) tells =
    let found = entry_found line e tells in
    let same = ap length found.1 in
    omega (arith, same, entry_short e found.0)
entry_read_short line (Err fault) tells = tt
