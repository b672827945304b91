use Rattle.std.proofs.Common.{rules}
use Rattle.fj_streams.proofs.CallsMade.{goes_failed}
use Rattle.fj_streams.proofs.writes.flush_whole.Goals as goal

pub returns-then-ne-clause-failed : goal.returns-then-ne-clause-failed
returns-then-ne-clause-failed g c = goes_failed _ _ _ _ c.loop-turn.invariant.1 (c.in-Err.ensures.counts.0 (search rules))
