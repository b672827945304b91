-- What the words after the first mean, in the lines of take: a worker takes a task, or waits for one.
use Rattle.std.specs.Prelude.{ℕ, List, Option, Some}
use Rattle.fj_lines.specs.declared.line.Line.{Line}
use Rattle.fj_lines.specs.declared.line.Line.TheVariants.{Poll, Help, Join}
use Rattle.fj_lines.specs.Words.{◌>>=◌, two_numbers}
use Rattle.fj_lines.specs.Readings.Tasks.{TaskReader, worker_task_number}

module _ {T N : Type 0} where
  unfoldable pub poll_in : List (List ℕ) → Option (Line T N)
  poll_in ws = do
    said ← two_numbers ws
    Some (Poll said.0 said.1)

  unfoldable pub help_in : List (List ℕ) → Option (Line T N)
  help_in ws = do
    said ← two_numbers ws
    Some (Help said.0 said.1)

  unfoldable pub join_in : TaskReader T N → List (List ℕ) → Option (Line T N)
  join_in reader ws = do
    said ← worker_task_number reader.task_in ws
    Some (Join said.0 said.1 said.2)
