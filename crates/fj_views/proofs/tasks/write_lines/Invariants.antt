use Rattle.std.proofs.Common.{take}
use Rattle.std.specs.Fmt.{HasWritten, IsPlainFormatter}
use Rattle.fj_views.specs.Tables.{lines_from}
use Rattle.fj_views.proofs.tasks.write_lines.Given as goal

-- the lines so far are written
abbrev pub invariant-loop-n : goal.invariant-loop-n
invariant-loop-n g l = IsPlainFormatter l.initial.f → HasWritten g.W.Write.write_str_gives l.initial.f (lines_from 0 (take l.n l.rows)) l.f
