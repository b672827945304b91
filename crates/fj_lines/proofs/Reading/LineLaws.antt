-- A line that is read has at most as many bytes as a line may have.
use Rattle.std.proofs.Common.{◌≡◌, ℕ, ◌+◌, ◌^◌, ◌<◌, ◌≤◌, Bool, true, false, List, [], ◌∷◌, length, Option, Some, None, ap, arith}
use Rattle.std.specs.Prelude.{IfSome}
use Rattle.std.specs.Fmt.{decimal}
use Rattle.fj_rules.specs.declared.step.Ending.{Ending}
use Rattle.fj_rules.specs.declared.step.Ending.TheVariants as ending
use Rattle.fj_rules.specs.declared.kind.SubmittedKind.{SubmittedKind}
use Rattle.fj_rules.specs.declared.kind.SubmittedKind.TheVariants as submitted
use Rattle.fj_lines.specs.declared.line.ForkedKind.{ForkedKind}
use Rattle.fj_lines.specs.declared.line.ForkedKind.TheVariants as forked
use Rattle.fj_lines.specs.declared.line.Line.{Line}
use Rattle.fj_lines.specs.declared.line.Line.TheVariants as line
use Rattle.fj_lines.specs.Tasks.{TaskWords}
use Rattle.fj_lines.specs.Readings.Tasks.{TaskReader}
use Rattle.fj_lines.specs.Lines.{relay_word, word_or_dash, submitted_words, forked_words, ending_words, HasSmallSubmitted, HasSmallForked, HasSmallEnding, line_words, HasWords}
use Rattle.fj_lines.specs.Readings.{line_in}
use Rattle.fj_lines.proofs.Reading.NumberLaws.{number_text}
use Rattle.fj_lines.proofs.Reading.WordLaws.{lengths, length-joined-le}
use Rattle.fj_lines.proofs.Reading.TaskLaws.{AreTasks}
use Rattle.fj_lines.proofs.Reading.LineFound.{line_found}

pub number_len : (n : ℕ) → n < 2 ^ 32 → length (decimal n) ≤ 10
number_len n small = (number_text n small).short

-- the words behind a submitter, a worker that forks and a worker whose task ends are short

pub relay_len : (relay : Bool) → length (relay_word relay) ≤ 5
relay_len true = omega arith
relay_len false = omega arith

submitted_short : (k : SubmittedKind) → HasSmallSubmitted k → lengths (submitted_words k) ≤ 17
submitted_short submitted.Plain fits = omega arith
submitted_short (submitted.Completer relay count) fits = omega (arith, number_len count fits, relay_len relay)

ending_short : (how : Ending) → HasSmallEnding how → lengths (ending_words how) ≤ 16
ending_short ending.Ok fits = omega arith
ending_short ending.Quiet fits = omega arith
ending_short ending.Try fits = omega arith
ending_short ending.Pass fits = omega arith
ending_short ending.Complete fits = omega arith
ending_short (ending.Fail code) fits = omega (arith, number_len code fits)

module _ {T N : Type 0} {tasks : TaskWords T N} {reader : TaskReader T N} {most : ℕ} (laws : AreTasks tasks reader most) where
  parent_len : (parent : Option T) → IfSome parent tasks.IsTask → length (word_or_dash tasks.word parent) ≤ 16
  parent_len None fits = omega arith
  parent_len (Some t) fits = laws.short t fits

  forked_short : (k : ForkedKind T) → HasSmallForked tasks.IsTask k → lengths (forked_words tasks.word k) ≤ 34
  forked_short forked.Plain fits = omega arith
  forked_short (forked.Completer relay count parent) fits = omega (arith, parent_len parent fits.0, number_len count fits.1, relay_len relay)

  words_short : (s : Line T N) → HasWords tasks s → lengths (line_words tasks s) ≤ 50 + most
  words_short (line.Submit label s k) fits = omega (arith, laws.label_short label (decimal s ∷ submitted_words k) fits.0, number_len s fits.1, submitted_short k fits.2)
  words_short (line.Fork label w k) fits = omega (arith, laws.label_short label (decimal w ∷ forked_words tasks.word k) fits.0, number_len w fits.1, forked_short k fits.2)
  words_short (line.Trigger label w n) fits = omega (arith, laws.label_short label (decimal w ∷ decimal n ∷ []) fits.0, number_len w fits.1, number_len n fits.2)
  words_short (line.Poll w r) fits = omega (arith, number_len w fits.0, number_len r fits.1)
  words_short (line.Help w r) fits = omega (arith, number_len w fits.0, number_len r fits.1)
  words_short (line.Join w t r) fits = omega (arith, number_len w fits.0, laws.short t fits.1, number_len r fits.2)
  words_short (line.End w how) fits = omega (arith, number_len w fits.0, ending_short how fits.1)
  words_short (line.HookDone w) fits = omega (arith, number_len w fits)
  words_short (line.Add w t n) fits = omega (arith, number_len w fits.0, laws.short t fits.1, number_len n fits.2)
  words_short (line.QuietRoot w t) fits = omega (arith, number_len w fits.0, laws.short t fits.1)
  words_short (line.Fault t code) fits = omega (arith, laws.short t fits.0, number_len code fits.1)
  words_short (line.Cancel t) fits = omega (arith, laws.short t fits)
  words_short line.Shutdown fits = omega arith
  words_short line.Stop fits = omega arith
  words_short line.IsQuiescent fits = omega arith
  words_short (line.State t) fits = omega (arith, laws.short t fits)
  words_short (line.Release t) fits = omega (arith, laws.short t fits)
  words_short line.Seal fits = omega arith
  words_short line.Epoch fits = omega arith

  -- a line that is read has few bytes
  pub line_short : (text : List ℕ) (s : Line T N) → line_in reader text ≡ Some s → length text ≤ 49 + most
  line_short text s e =
      let found = line_found laws text s e in
      let same = ap length found.1 in
      omega (arith, same, length-joined-le (line_words tasks s), words_short s found.0)
