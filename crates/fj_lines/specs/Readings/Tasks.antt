-- The task, or the label of a new task, that words mean.
use Rattle.std.specs.Prelude.{ℕ, if◌then◌else◌, List, Option, Some, None}
use Rattle.fj_lines.specs.Names.{is_name}
use Rattle.fj_lines.specs.Words.{◌>>=◌, number_in, word_first, number_first, if_last, one_number}

-- the task of a word; the label in front of words, and the words after it
pub record TaskReader (T N : Type 0) : Type 0 where
  pub task_in : List ℕ → Option T
  pub label_in : List (List ℕ) → Option (N × List (List ℕ))

module _ {T : Type 0} where
  -- the task of the first word, and the words after it
  abbrev pub task_first : (List ℕ → Option T) → List (List ℕ) → Option (T × List (List ℕ))
  task_first task_in ws = do
    word ← word_first ws
    t ← task_in word.0
    Some (t, word.1)

  -- the task, where no word is left after it
  unfoldable pub one_task : (List ℕ → Option T) → List (List ℕ) → Option T
  one_task task_in ws = do
    t ← task_first task_in ws
    if_last t.1 t.0

  -- a worker, a task and a number, where no word is left after them
  unfoldable pub worker_task_number : (List ℕ → Option T) → List (List ℕ) → Option (ℕ × T × ℕ)
  worker_task_number task_in ws = do
    w ← number_first ws
    t ← task_first task_in w.1
    n ← one_number t.1
    Some (w.0, t.0, n)

-- ---- of version 1, and of version 2

unfoldable pub name_in : List ℕ → Option (List ℕ)
name_in word = if is_name word then Some word else None

abbrev pub numbers_read : TaskReader ℕ Unit
numbers_read = record {
  task_in = number_in;
  label_in = λ ws. Some (tt, ws);
}

abbrev pub names_read : TaskReader (List ℕ) (List ℕ)
names_read = record {
  task_in = name_in;
  label_in = task_first name_in;
}
