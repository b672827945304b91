use Rattle.std.proofs.Common.{[], ◌∷◌, ◌++◌, List, sym, ap, ◌∙◌, subst}
use Rattle.atomic_table.specs.Table.{Me}
use Rattle.fj_fronts.specs.declared.word.Knowledge.{Knowledge}
use Rattle.fj_fronts.specs.Logs.{IsLegal}
use Rattle.fj_fronts.proofs.Logs.{legal_grows}
use Rattle.fj_fronts.proofs.Steps.{appended, appends, has_word, is_keeper, keeper_again}
use Rattle.fj_fronts.proofs.keeper.append_as.Goals as goal

pub load-requires : goal.load-requires
load-requires g c =
    let named = c.log.invariant in
    (c.keeper.invariant.of_log ∙ sym named.place, has_word _ _ named.place named.one_word, appends _ _ c.keeper.inside.token.me g.C.Chosen.chosen (is_keeper _ c.keeper.invariant.knows))

pub invariant_of-keeper : goal.invariant_of-keeper
invariant_of-keeper g c =
    let may = g.E.Entry.may_follow in
    let entry = g.T.Tells.told c.args._teller.now in
    let log = c.keeper.inside.token.me.0.known in
    let now = appended g.C.Chosen.chosen entry c.keeper.inside.token.me _ c.load.ensures.2 c.requires.chosen c.keeper.invariant.knows in
    let follows = subst (λ (l : List g.row.E.Denot). may l entry) (sym c.keeper.view_is) c.requires.follows in record {
      of_log = c.load.ensures.0 ∙ c.keeper.invariant.of_log;
      knows = keeper_again (log ++ entry ∷ []) _ now;
      legal = subst (λ (l : List g.row.E.Denot). IsLegal may l) (sym (ap (λ (m : Me (Unit {0}) (Knowledge g.row.E.Denot)). m.0.known) now)) (legal_grows may log entry c.keeper.invariant.legal follows);
    }

pub returns : goal.returns
returns g c =
    let entry = g.T.Tells.told c.args._teller.now in
    let now = appended g.C.Chosen.chosen entry c.keeper.inside.token.me _ c.load.ensures.2 c.requires.chosen c.keeper.invariant.knows in
    ap (λ (m : Me (Unit {0}) (Knowledge g.row.E.Denot)). m.0.known) now ∙ ap (λ (l : List g.row.E.Denot). l ++ entry ∷ []) c.keeper.view_is
