use Rattle.std.proofs.Common.{rules, length, List, sym, ap, ◌∙◌}
use Rattle.atomic_table.specs.Table.{Me}
use Rattle.fj_agreement.specs.Ends.{EndState}
use Rattle.fj_agreement.proofs.Steps.{meets, halves, two, same_value}
use Rattle.fj_agreement.proofs.end.End.meet.Goals as goal

pub load-requires : goal.load-requires
load-requires g c = (search rules, search rules, meets _ _ _)

pub split_seat-requires : goal.split_seat-requires
split_seat-requires g c =
    let both = ap (λ (m : Me (Unit {0}) (List g.row.V.Denot)). length m.0) (c.load.ensures.2.0 ∙ c.gather.ensures.token) ∙ two _ _ c.self.invariant.one_value c.other.invariant.one_value in
    (search rules, search rules, halves _ _ both)

pub returns-clause-same : goal.returns-clause-same
returns-clause-same g c =
    let told = c.load.ensures.2 in
    let are = ap (λ (m : Me (Unit {0}) (List g.row.V.Denot)). m.0) c.gather.ensures.token in
    let same = same_value _ _ _ g.V.Known.first told.1 are c.self.invariant.one_value c.other.invariant.one_value told.2 in
    ap (λ (e : EndState g.row.V.Denot). e.value) (sym c.self.view_is) ∙ same ∙ ap (λ (e : EndState g.row.V.Denot). e.value) c.other.view_is
