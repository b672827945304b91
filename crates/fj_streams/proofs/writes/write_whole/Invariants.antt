use Rattle.std.proofs.Common.{◌≤◌, ◌-◌, take, length}
use Rattle.std.specs.Io.KnownBytes.{Appends}
use Rattle.fj_streams.specs.Calls.{IsFine}
use Rattle.fj_streams.proofs.writes.write_whole.Given as goal

abbrev pub invariant-loop-at : goal.invariant-loop-at
invariant-loop-at g l =
    (l.at ≤ length l.bytes)
    × Appends (g.W.Sink.contents l.fn.w) (g.W.Sink.contents l.w) (take l.at l.bytes)
    × IsFine (g.W.Sink.calls l.fn.w) (g.W.Sink.calls l.w)

abbrev pub decreases-loop-at : goal.decreases-loop-at
decreases-loop-at g l = length l.bytes - l.at
