-- A line of version 2 that is read is the line of what it asks for, and that line is read as it.
use Rattle.std.proofs.Common.{◌≡◌, ℕ, ◌≤◌, List, length, Some, ap, ◌∙◌, arith}
use Rattle.std.specs.Prelude.{Result, Ok, Err, IfOk, OnOk}
use Rattle.fj_lines.specs.declared.read.fault.LineFault.{LineFault}
use Rattle.fj_lines.specs.declared.read.line2.TheConstants.{MAX_LINE2}
use Rattle.fj_lines.specs.Words.{Reads}
use Rattle.fj_lines.specs.Lines.{Line2, line2_text, HasLine2, line2_in}
use Rattle.fj_lines.proofs.Reading.PartLaws.{told}
use Rattle.fj_lines.proofs.Reading.TaskLaws.{name_tasks}
use Rattle.fj_lines.proofs.Reading.LineFound.{line_found}
use Rattle.fj_lines.proofs.Reading.LineAgain.{line_again}
use Rattle.fj_lines.proofs.Reading.LineLaws.{line_short}

-- a line that is read is the line of what it asks for
pub line2_found : (text : List ℕ) (s : Line2) → line2_in text ≡ Some s → HasLine2 s × (text ≡ line2_text s)
unfolding line2_in
line2_found text s e = line_found name_tasks text s e

-- the line of what is asked for is read as that
pub line2_again : (s : Line2) → HasLine2 s → line2_in (line2_text s) ≡ Some s
unfolding line2_in
line2_again s fits = line_again name_tasks s fits

-- a line that is read has few bytes
pub line2_short : (text : List ℕ) (s : Line2) → line2_in text ≡ Some s → length text ≤ MAX_LINE2
unfolding line2_in
line2_short text s e = omega (arith, line_short name_tasks text s e)

-- ---- what a reader of lines answers

pub line2_written : (text : List ℕ) (result : Result Line2 LineFault) → Reads (line2_in text) result → IfOk result (λ s. HasLine2 s × (text ≡ line2_text s))
line2_written text (Ok s) tells = line2_found text s tells
line2_written text (Err e) tells = tt

pub line2_read : (text : List ℕ) (result : Result Line2 LineFault) → Reads (line2_in text) result → (s : Line2) → HasLine2 s → text ≡ line2_text s → result ≡ Ok s
line2_read text result tells s fits is = told (line2_in text) s result (ap line2_in is ∙ line2_again s fits) tells

pub line2_read_short : (text : List ℕ) (result : Result Line2 LineFault) → Reads (line2_in text) result → OnOk result (length text ≤ MAX_LINE2)
line2_read_short text (Ok s) tells = line2_short text s tells
line2_read_short text (Err e) tells = tt
