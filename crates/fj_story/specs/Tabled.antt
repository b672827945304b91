-- What a table keeps.
use Rattle.std.specs.Prelude.{ℕ, ◌≡◌, ◌<◌, List, [], length}
use Rattle.fj_rules.specs.Tasks.{accepted}
use Rattle.fj_rules.specs.Climbs.{ClimbsCompleters}
use Rattle.fj_rules.specs.Allowed.{AllowedFrom}
use Rattle.fj_rules.specs.Pasts.{Past}
use Rattle.fj_story.specs.declared.row.TaskRow.{TaskRow}
use Rattle.fj_story.specs.Rows.{row}
use Rattle.fj_story.specs.Changes.{row_at}

-- the rows are those of the tasks that were accepted so far, and so many events have happened
pub record Tabled (past : Past) (rows : List TaskRow) (now : ℕ) : Type 0 where
  pub lawful : AllowedFrom past.pool [] past.events
  pub climbs : ClimbsCompleters past.events
  pub number : now ≡ length past.events
  pub count : length rows ≡ accepted past.events
  pub each : (t : ℕ) → t < length rows → row_at rows t ≡ row past.events t
