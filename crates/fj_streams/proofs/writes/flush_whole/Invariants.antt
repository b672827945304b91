use Rattle.std.specs.Io.KnownBytes.{Keeps}
use Rattle.fj_streams.specs.Calls.{GoesOn}
use Rattle.fj_streams.proofs.writes.flush_whole.Given as goal

abbrev pub invariant-loop-turn : goal.invariant-loop-turn
invariant-loop-turn g l =
    Keeps (g.W.Sink.contents l.fn.w) (g.W.Sink.contents l.w)
    × GoesOn (g.W.Sink.calls l.fn.w) (g.W.Sink.calls l.w) l._turn
