-- What the words after the first mean, in the lines of end: a body or a completion action ends.
use Rattle.std.specs.Prelude.{ℕ, if◌then◌else◌, List, Option, Some, None, codes}
use Rattle.std.specs.Str.{bytes_eq}
use Rattle.fj_rules.specs.declared.step.Ending.{Ending}
use Rattle.fj_rules.specs.declared.step.Ending.TheVariants as ending
use Rattle.fj_lines.specs.declared.line.Line.{Line}
use Rattle.fj_lines.specs.declared.line.Line.TheVariants.{End, HookDone}
use Rattle.fj_lines.specs.Words.{◌>>=◌, word_first, number_first, if_last, one_number}

-- ---- how a body ends

-- the endings of one word
abbrev pub ending_word_said : List ℕ → Option Ending
ending_word_said word =
    if bytes_eq word (codes "ok") then Some ending.Ok
    else if bytes_eq word (codes "quiet") then Some ending.Quiet
    else if bytes_eq word (codes "try") then Some ending.Try
    else if bytes_eq word (codes "pass") then Some ending.Pass
    else if bytes_eq word (codes "complete") then Some ending.Complete
    else None

unfoldable pub ending_said : List (List ℕ) → Option Ending
ending_said ws = do
  word ← word_first ws
  if bytes_eq word.0 (codes "fail") then (one_number word.1 >>= λ code. Some (ending.Fail code)) else (ending_word_said word.0 >>= λ how. if_last word.1 how)

-- ---- lines

module _ {T N : Type 0} where
  unfoldable pub end_in : List (List ℕ) → Option (Line T N)
  end_in ws = do
    w ← number_first ws
    how ← ending_said w.1
    Some (End w.0 how)

  unfoldable pub hook_in : List (List ℕ) → Option (Line T N)
  hook_in ws = do
    w ← one_number ws
    Some (HookDone w)
