use Rattle.fj_lane.proofs.Kept.{drains}
use Rattle.fj_lane.proofs.drain.Drain.take.Goals as goal

pub steal_as-requires-clause-takes : goal.steal_as-requires-clause-takes
steal_as-requires-clause-takes g c = drains _ _ c.self.invariant.may_drain
