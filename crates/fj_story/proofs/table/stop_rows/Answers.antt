use Rattle.std.proofs.Common.{ap, sym, ◌∙◌}
use Rattle.std.proofs.Math.ListN.{set}
use Rattle.std.proofs.lemmas.List.Edits.{map_over_more}
use Rattle.fj_story.specs.Changes.{stopped}
use Rattle.fj_story.proofs.table.stop_rows.Goals as goal

pub loop-row-preserved : goal.loop-row-preserved
loop-row-preserved c =
    let rows = c.loop-row.rows in
    let i = c.loop-row.row-index in record {
      changed = ap (set rows i) (c.stopped.ensures ∙ ap stopped (sym c.row-item.is)) ∙ map_over_more stopped c.args.rows.now rows i c.row-item.result c.loop-row-test.true c.loop-row.invariant.changed c.row-item.is;
    }
