use Rattle.fj_lane.proofs.Kept.{empties}
use Rattle.fj_lane.proofs.rest.Rest.next.Goals as goal

pub pop_as-requires-clause-fifo : goal.pop_as-requires-clause-fifo
pop_as-requires-clause-fifo g c = λ _. empties _ _ c.self.invariant.may_feed c.self.invariant.may_drain
