-- What the words after the first mean, in the lines of accept: a task enters the pool.
use Rattle.std.specs.Prelude.{ℕ, Bool, true, false, if◌then◌else◌, List, Option, Some, None, codes}
use Rattle.std.specs.Str.{bytes_eq}
use Rattle.fj_rules.specs.declared.kind.SubmittedKind.{SubmittedKind}
use Rattle.fj_rules.specs.declared.kind.SubmittedKind.TheVariants as submitted
use Rattle.fj_lines.specs.declared.line.ForkedKind.{ForkedKind}
use Rattle.fj_lines.specs.declared.line.ForkedKind.TheVariants as forked
use Rattle.fj_lines.specs.declared.line.Line.{Line}
use Rattle.fj_lines.specs.declared.line.Line.TheVariants.{Submit, Fork, Trigger}
use Rattle.fj_lines.specs.Readings.Tasks.{TaskReader}
use Rattle.fj_lines.specs.Words.{◌>>=◌, word_first, number_first, is_last, if_last, two_numbers}

-- ---- a completer's count and relay word, and its parent

abbrev pub relay_said : List ℕ → Option Bool
relay_said word = if bytes_eq word (codes "relay") then Some true else if bytes_eq word (codes "stop") then Some false else None

unfoldable pub count_and_relay : List (List ℕ) → Option (ℕ × Bool)
count_and_relay ws = do
  count ← number_first ws
  word ← word_first count.1
  relay ← relay_said word.0
  if_last word.1 (count.0, relay)

unfoldable pub parent_said : {T : Type 0} → (List ℕ → Option T) → List ℕ → Option (Option T)
parent_said task_in word = if bytes_eq word (codes "-") then Some None else (task_in word >>= λ t. Some (Some t))

-- ---- kinds: without words, the task is a plain one

unfoldable pub submitted_said : List (List ℕ) → Option SubmittedKind
submitted_said ws =
    if is_last ws then Some submitted.Plain
    else (count_and_relay ws >>= λ said. Some (submitted.Completer said.1 said.0))

unfoldable pub forked_said : {T : Type 0} → (List ℕ → Option T) → List (List ℕ) → Option (ForkedKind T)
forked_said task_in ws =
    if is_last ws then Some forked.Plain
    else (word_first ws >>= λ word. parent_said task_in word.0 >>= λ parent. count_and_relay word.1 >>= λ said. Some (forked.Completer said.1 said.0 parent))

-- ---- lines

module _ {T N : Type 0} where
  unfoldable pub submit_in : TaskReader T N → List (List ℕ) → Option (Line T N)
  submit_in reader ws = do
    label ← reader.label_in ws
    s ← number_first label.1
    kind ← submitted_said s.1
    Some (Submit label.0 s.0 kind)

  unfoldable pub fork_in : TaskReader T N → List (List ℕ) → Option (Line T N)
  fork_in reader ws = do
    label ← reader.label_in ws
    w ← number_first label.1
    kind ← forked_said reader.task_in w.1
    Some (Fork label.0 w.0 kind)

  unfoldable pub trigger_in : TaskReader T N → List (List ℕ) → Option (Line T N)
  trigger_in reader ws = do
    label ← reader.label_in ws
    said ← two_numbers label.1
    Some (Trigger label.0 said.0 said.1)
