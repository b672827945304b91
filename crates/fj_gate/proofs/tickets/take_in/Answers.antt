use Rattle.std.proofs.Common.{rules}
use Rattle.fj_gate.proofs.Parting.{joins}
use Rattle.fj_gate.proofs.tickets.take_in.Goals as goal

pub join_seat-requires : goal.join_seat-requires
join_seat-requires c = (search rules, search rules, search rules, search rules, joins _ _ _ _ c.requires.token.0)
