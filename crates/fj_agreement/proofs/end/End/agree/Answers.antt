use Rattle.std.proofs.Common.{rules, length, List, ap, ◌∙◌}
use Rattle.atomic_table.specs.Table.{Me}
use Rattle.fj_agreement.proofs.Steps.{renews, two}
use Rattle.fj_agreement.proofs.end.End.agree.Goals as goal

pub split_seat-requires : goal.split_seat-requires
split_seat-requires g c =
    let both = ap (λ (m : Me (Unit {0}) (List g.row.V.Denot)). length m.0) c.gather.ensures.token ∙ two _ _ c.self.invariant.one_value c.other.invariant.one_value in
    (search rules, search rules, renews _ _ _ both)
