use Rattle.std.proofs.Common.{ℕ, ◌≡◌, List, length}
use Rattle.std.specs.Io.KnownBytes.{Consumes}
use Rattle.fj_streams.specs.Calls.{GoesOn, IsFine}
use Rattle.fj_streams.specs.declared.read_loop.TheConstants.{CHUNK}
use Rattle.fj_streams.specs.Buffers.{IsAt}
use Rattle.fj_streams.proofs.read_loop.filter_in.Given as goal

-- what was read so far is good, and the buffer keeps it; no call failed
abbrev pub invariant-loop-reads : goal.invariant-loop-reads
invariant-loop-reads g l =
    ((b : List ℕ) × Consumes (g.R.Source.remaining l.fn.r) (g.R.Source.remaining l.r) b × IsAt g.F.LineFilter.rules l.fn.state b l.buffer l.state (g.W.Sink.contents l.fn.w) (g.W.Sink.contents l.w))
    × GoesOn (g.R.Source.calls l.fn.r) (g.R.Source.calls l.r) l._reads
    × IsFine (g.W.Sink.calls l.fn.w) (g.W.Sink.calls l.w)
    × (length l.chunk ≡ CHUNK)
