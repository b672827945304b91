use Rattle.std.proofs.Common.{take}
use Rattle.fj_tally.proofs.Counted.{Counted}
use Rattle.fj_tally.proofs.tally.Tally.of.Given as goal

-- what came so far is counted
abbrev pub invariant-loop-event : goal.invariant-loop-event
invariant-loop-event l = Counted l.counts (take l.event-index l.events)
