use Rattle.std.proofs.Common.{rules}
use Rattle.fj_agreement.proofs.Steps.{spares, joins}
use Rattle.fj_agreement.proofs.end.gather.Goals as goal

pub split_seat-spare-requires : goal.split_seat-spare-requires
split_seat-spare-requires g c = (search rules, search rules, spares _ _)

pub join_seat-requires : goal.join_seat-requires
join_seat-requires g c = (search rules, search rules, search rules, search rules, joins _ _ _ _)
