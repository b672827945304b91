-- What the words after the first mean, in the lines of completer: a count is raised, or a root made normal.
use Rattle.std.specs.Prelude.{ℕ, List, Option, Some}
use Rattle.fj_lines.specs.declared.line.Line.{Line}
use Rattle.fj_lines.specs.declared.line.Line.TheVariants.{Add, QuietRoot}
use Rattle.fj_lines.specs.Words.{◌>>=◌, number_first}
use Rattle.fj_lines.specs.Readings.Tasks.{TaskReader, one_task, worker_task_number}

module _ {T N : Type 0} where
  unfoldable pub add_in : TaskReader T N → List (List ℕ) → Option (Line T N)
  add_in reader ws = do
    said ← worker_task_number reader.task_in ws
    Some (Add said.0 said.1 said.2)

  unfoldable pub root_in : TaskReader T N → List (List ℕ) → Option (Line T N)
  root_in reader ws = do
    w ← number_first ws
    t ← one_task reader.task_in w.1
    Some (QuietRoot w.0 t)
