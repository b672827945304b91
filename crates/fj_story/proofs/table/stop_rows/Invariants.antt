use Rattle.std.proofs.Common.{◌≡◌, ◌++◌, map, take, drop}
use Rattle.fj_story.specs.Changes.{stopped}
use Rattle.fj_story.proofs.table.stop_rows.Given as goal

-- the rows so far are changed
abbrev pub invariant-loop-row : goal.invariant-loop-row
invariant-loop-row l = record {
  changed : l.rows ≡ map stopped (take l.row-index l.fn.rows) ++ drop l.row-index l.fn.rows;
}
