use Rattle.std.proofs.Common.{rules}
use Rattle.std.proofs.Output.{has_written_append, has_written_of_eq, writes_in_calls_nil}
use Rattle.fj_views.specs.Tables.{lines_from}
use Rattle.fj_views.proofs.Lines.{lines_next}
use Rattle.fj_views.proofs.tasks.write_lines.Goals as goal

pub loop-n-init : goal.loop-n-init
unfolding lines_from
loop-n-init g c = λ p. record { wrote = writes_in_calls_nil _ _; plain = p }

pub loop-n-preserved : goal.loop-n-preserved
loop-n-preserved g c = λ p. has_written_of_eq _ _ _ _ _ (lines_next c.args.rows.now c.loop-n.n c.index-rows-n.result c.loop-n-test.true c.index-rows-n.is)
    (has_written_append _ _ _ _ _ _ (c.loop-n.invariant p) (search rules))
