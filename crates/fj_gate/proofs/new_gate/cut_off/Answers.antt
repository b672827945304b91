use Rattle.std.proofs.Common.{rules}
use Rattle.fj_gate.proofs.Parting.{splits}
use Rattle.fj_gate.proofs.new_gate.cut_off.Goals as goal

pub split_seat-token-requires : goal.split_seat-token-requires
split_seat-token-requires c = let s = c.requires.token in (search rules, search rules, splits _ _ s.2.0 s.0 s.2.1)
