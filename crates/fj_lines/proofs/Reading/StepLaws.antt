-- A line that is read as a step is the line of that step, and the line of a step is read as that step.
use Rattle.std.proofs.Common.{◌≡◌, ℕ, ◌≤◌, List, length, Some, refl, sym, ap, ◌∙◌, arith}
use Rattle.std.specs.Prelude.{Result, Ok, Err, IfOk, OnOk}
use Rattle.fj_rules.specs.declared.kind.Kind.{Kind}
use Rattle.fj_rules.specs.declared.kind.Kind.TheVariants as kind
use Rattle.fj_rules.specs.declared.step.Step.{Step}
use Rattle.fj_rules.specs.declared.step.Step.TheVariants as step
use Rattle.fj_lines.specs.declared.read.TheConstants.{MAX_LINE}
use Rattle.fj_lines.specs.declared.read.fault.LineFault.{LineFault}
use Rattle.fj_lines.specs.declared.line.ForkedKind.{ForkedKind}
use Rattle.fj_lines.specs.declared.line.ForkedKind.TheVariants as forked
use Rattle.fj_lines.specs.declared.line.Line.{Line}
use Rattle.fj_lines.specs.declared.line.Line.TheVariants as line
use Rattle.fj_lines.specs.Words.{Reads}
use Rattle.fj_lines.specs.Readings.Tasks.{numbers_read}
use Rattle.fj_lines.specs.Lines.{forked_of, line_of, step_line, HasLine, kind_of, step_of, step_in}
use Rattle.fj_lines.specs.Readings.{line_in}
use Rattle.fj_lines.proofs.Reading.PartLaws.{some_is, some_then, told}
use Rattle.fj_lines.proofs.Reading.TaskLaws.{number_tasks}
use Rattle.fj_lines.proofs.Reading.LineFound.{line_found}
use Rattle.fj_lines.proofs.Reading.LineAgain.{line_again}
use Rattle.fj_lines.proofs.Reading.LineLaws.{line_short}

-- ---- a step and what its line asks for

forked_same : (k : ForkedKind ℕ) → forked_of (kind_of k) ≡ k
forked_same forked.Plain = refl
forked_same (forked.Completer relay count parent) = refl

kind_again : (k : Kind) → kind_of (forked_of k) ≡ k
kind_again kind.Plain = refl
kind_again (kind.Completer relay count parent) = refl

-- the step that a line asks for has a line that asks for the same
step_asks : (asked : Line ℕ Unit) (s : Step) → step_of asked ≡ Some s → line_of s ≡ asked
step_asks (line.Submit label n k) s e = ap line_of (sym (some_is (step.Submit n k) s e))
step_asks (line.Fork label w k) s e = ap line_of (sym (some_is (step.Fork w (kind_of k)) s e)) ∙ ap (λ (j : ForkedKind ℕ). line.Fork tt w j) (forked_same k)
step_asks (line.Trigger label w n) s e = ap line_of (sym (some_is (step.Trigger w n) s e))
step_asks (line.Poll w r) s e = cc
step_asks (line.Help w r) s e = cc
step_asks (line.Join w t r) s e = cc
step_asks (line.End w how) s e = cc
step_asks (line.HookDone w) s e = cc
step_asks (line.Add w t n) s e = cc
step_asks (line.QuietRoot w t) s e = cc
step_asks (line.Fault t code) s e = cc
step_asks (line.Cancel t) s e = cc
step_asks line.Shutdown s e = cc
step_asks line.Stop s e = cc
step_asks line.IsQuiescent s e = cc
step_asks (line.State t) s e = cc
step_asks (line.Release t) s e = cc
step_asks line.Seal s e = absurd cc
step_asks line.Epoch s e = absurd cc

asks_again : (s : Step) → step_of (line_of s) ≡ Some s
asks_again (step.Submit n k) = refl
asks_again (step.Fork w k) = ap (λ (j : Kind). Some (step.Fork w j)) (kind_again k)
asks_again (step.Trigger w n) = refl
asks_again (step.Poll w r) = refl
asks_again (step.Help w r) = refl
asks_again (step.Join w t r) = refl
asks_again (step.End w how) = refl
asks_again (step.HookDone w) = refl
asks_again (step.Add w t n) = refl
asks_again (step.QuietRoot w t) = refl
asks_again (step.Fault t code) = refl
asks_again (step.Cancel t) = refl
asks_again step.Shutdown = refl
asks_again step.Stop = refl
asks_again step.IsQuiescent = refl
asks_again (step.State t) = refl
asks_again (step.Release t) = refl

-- ---- the line of a step, both ways

-- a line that is read as a step asks for what the line of that step asks for
step_line_in : (line : List ℕ) (s : Step) → step_in line ≡ Some s → line_in numbers_read line ≡ Some (line_of s)
unfolding step_in
step_line_in line s e =
    some_then (line_in numbers_read line) step_of s e (λ asked read is. read ∙ ap (λ (a : Line ℕ Unit). Some a) (sym (step_asks asked s is)))

-- a line that is read as a step is the step's line
pub step_found : (line : List ℕ) (s : Step) → step_in line ≡ Some s → HasLine s × (line ≡ step_line s)
step_found line s e = line_found number_tasks line (line_of s) (step_line_in line s e)

-- the line of a step is read as that step
pub step_again : (s : Step) → HasLine s → step_in (step_line s) ≡ Some s
unfolding step_in
step_again s fits = rw (line_again number_tasks (line_of s) fits) (asks_again s)

-- the line of a step has few bytes
pub step_short : (line : List ℕ) (s : Step) → step_in line ≡ Some s → length line ≤ MAX_LINE
step_short line s e = omega (arith, line_short number_tasks line (line_of s) (step_line_in line s e))

-- ---- what a reader of steps answers

-- what is read is written so
pub step_written : (line : List ℕ) (result : Result Step LineFault) → Reads (step_in line) result → IfOk result (λ s. HasLine s × (line ≡ step_line s))
step_written line (Ok s) tells = step_found line s tells
step_written line (Err e) tells = tt

-- what is written so is read
pub step_read : (line : List ℕ) (result : Result Step LineFault) → Reads (step_in line) result → (s : Step) → HasLine s → line ≡ step_line s → result ≡ Ok s
step_read line result tells s fits is = told (step_in line) s result (ap step_in is ∙ step_again s fits) tells

pub step_read_short : (line : List ℕ) (result : Result Step LineFault) → Reads (step_in line) result → OnOk result (length line ≤ MAX_LINE)
step_read_short line (Ok s) tells = step_short line s tells
step_read_short line (Err e) tells = tt
