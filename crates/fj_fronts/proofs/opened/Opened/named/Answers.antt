use Rattle.std.proofs.Common.{[], List, sym, ap, ◌∙◌, subst}
use Rattle.atomic_table.specs.Table.{Me}
use Rattle.fj_fronts.specs.declared.word.Knowledge.{Knowledge}
use Rattle.fj_fronts.specs.Logs.{IsLegal}
use Rattle.fj_fronts.proofs.Logs.{legal_nil}
use Rattle.fj_fronts.proofs.Steps.{keeper_again}
use Rattle.fj_fronts.proofs.opened.Opened.named.Goals as goal

pub invariant_of-keeper : goal.invariant_of-keeper
invariant_of-keeper g c =
    let may = g.E.Entry.may_follow in
    let none = ap (λ (m : Me (Unit {0}) (Knowledge g.row.E.Denot)). m.0.known) c.self.invariant.knows in record {
      of_log = c.self.view_is ∙ c.requires.name;
      knows = keeper_again [] _ c.self.invariant.knows;
      legal = subst (λ (l : List g.row.E.Denot). IsLegal may l) (sym none) (legal_nil may);
    }
