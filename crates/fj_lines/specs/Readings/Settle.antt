-- What the words after the first mean, in the lines of settle: a task gets a status.
use Rattle.std.specs.Prelude.{ℕ, List, Option, Some}
use Rattle.fj_lines.specs.declared.line.Line.{Line}
use Rattle.fj_lines.specs.declared.line.Line.TheVariants.{Fault, Cancel}
use Rattle.fj_lines.specs.Words.{◌>>=◌, one_number}
use Rattle.fj_lines.specs.Readings.Tasks.{TaskReader, task_first, one_task}

module _ {T N : Type 0} where
  unfoldable pub fault_in : TaskReader T N → List (List ℕ) → Option (Line T N)
  fault_in reader ws = do
    t ← task_first reader.task_in ws
    code ← one_number t.1
    Some (Fault t.0 code)

  unfoldable pub cancel_in : TaskReader T N → List (List ℕ) → Option (Line T N)
  cancel_in reader ws = do
    t ← one_task reader.task_in ws
    Some (Cancel t)
