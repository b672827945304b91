use Rattle.std.proofs.Common.{rules}
use Rattle.fj_gate.proofs.Steps.{watches}
use Rattle.fj_gate.proofs.closer.Closer.look.Goals as goal

pub load-found-requires : goal.load-found-requires
load-found-requires c = (search rules, search rules, watches _ _ _ c.self.invariant.first_seat)
