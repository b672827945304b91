use Rattle.std.proofs.Common.{rules}
use Rattle.fj_gate.proofs.Steps.{closes}
use Rattle.fj_gate.proofs.closer.Closer.close.Goals as goal

pub fetch_or-found-requires : goal.fetch_or-found-requires
fetch_or-found-requires c = (search rules, search rules, closes _ _ _ c.self.invariant.first_seat)
