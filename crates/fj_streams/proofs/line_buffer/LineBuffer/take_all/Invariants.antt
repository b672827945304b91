use Rattle.std.proofs.Common.{ℕ, ◌≡◌, ◌+◌, ◌≤◌, List, ◌++◌, length, Option}
use Rattle.fj_streams.specs.Calls.{IsFine}
use Rattle.fj_streams.specs.Buffers.{IsAt}
use Rattle.fj_streams.proofs.line_buffer.LineBuffer.take_all.Given as goal

-- the bytes before the rest are taken
abbrev pub invariant-loop-end : goal.invariant-loop-end
invariant-loop-end g l =
    (taken : List ℕ)
    × (l.fn.bytes ≡ taken ++ l.rest)
    × (l.self.count ≤ l.fn.self.count + length taken)
    × ((first : _) (b : List ℕ) (start : Option (List ℕ)) → IsAt g.F.LineFilter.rules first b l.fn.self l.fn.state start (g.W.Sink.contents l.fn.w) → IsAt g.F.LineFilter.rules first (b ++ taken) l.self l.state start (g.W.Sink.contents l.w))
    × IsFine (g.W.Sink.calls l.fn.w) (g.W.Sink.calls l.w)

abbrev pub decreases-loop-end : goal.decreases-loop-end
decreases-loop-end g l = length l.rest
