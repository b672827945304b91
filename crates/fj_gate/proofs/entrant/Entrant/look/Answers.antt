use Rattle.std.proofs.Common.{rules}
use Rattle.fj_gate.proofs.Steps.{looks}
use Rattle.fj_gate.proofs.entrant.Entrant.look.Goals as goal

pub load-found-requires : goal.load-found-requires
load-found-requires c = (search rules, search rules, looks _ _ _)
