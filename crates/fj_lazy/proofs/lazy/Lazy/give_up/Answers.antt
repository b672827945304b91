use Rattle.std.proofs.Common.{arith}
use Rattle.fj_lazy.proofs.Asking.{asks_more}
use Rattle.fj_lazy.proofs.lazy.Lazy.give_up.Goals as goal

pub returns-clause-asks : goal.returns-clause-asks
returns-clause-asks g c = asks_more _ _ _ _ _ _ _ _ c.leave.ensures.asks (omega arith)
