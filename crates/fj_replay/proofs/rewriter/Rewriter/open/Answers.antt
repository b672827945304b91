use Rattle.fj_replay.proofs.Version2.Accepted.{fresh_counted}
use Rattle.fj_replay.proofs.rewriter.Rewriter.open.Goals as goal

pub invariant_of-result : goal.invariant_of-result
invariant_of-result c = record { counted = fresh_counted _ c.in_ok-machine.ensures.fresh; room = c.in-Ok.ensures.capacity }
