-- What the words after the first mean, in the line of release.
use Rattle.std.specs.Prelude.{ℕ, List, Option, Some}
use Rattle.fj_lines.specs.declared.line.Line.{Line}
use Rattle.fj_lines.specs.declared.line.Line.TheVariants.{Release}
use Rattle.fj_lines.specs.Words.{◌>>=◌}
use Rattle.fj_lines.specs.Readings.Tasks.{TaskReader, one_task}

unfoldable pub release_in : {T N : Type 0} → TaskReader T N → List (List ℕ) → Option (Line T N)
release_in reader ws = do
  t ← one_task reader.task_in ws
  Some (Release t)
