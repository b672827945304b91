use Rattle.std.proofs.Common.{rules, sym, ap, ◌∙◌}
use Rattle.atomic_table.specs.Table.{Me}
use Rattle.fj_fronts.specs.declared.word.Knowledge.{Knowledge}
use Rattle.fj_fronts.proofs.Steps.{checks, has_word, is_keeper, joins, shows}
use Rattle.fj_fronts.proofs.front.Front.learn.Goals as goal

pub split_seat-whole-requires : goal.split_seat-whole-requires
split_seat-whole-requires g c =
    let named = c.log.invariant in
    (c.keeper.invariant.of_log ∙ sym named.place, has_word _ _ named.place named.one_word, shows _ c.keeper.inside.token.me.0)

pub join_seat-requires : goal.join_seat-requires
join_seat-requires g c =
    let named = c.log.invariant in
    (c.split_seat-whole.ensures.0 ∙ c.keeper.invariant.of_log ∙ sym named.place, search rules, search rules, has_word _ _ named.place named.one_word, joins _ _ _ _)

pub load-requires : goal.load-requires
load-requires g c =
    let named = c.log.invariant in
    let keeps = λ (m : Me (Unit {0}) (Knowledge g.row.E.Denot)). m.0.is_keeper in
    let keeper = ap keeps c.join_seat.ensures.2 ∙ ap keeps c.split_seat-whole.ensures.2 ∙ is_keeper _ c.keeper.invariant.knows in
    (c.join_seat.ensures.0 ∙ c.split_seat-whole.ensures.0 ∙ c.keeper.invariant.of_log ∙ sym named.place, has_word _ _ named.place named.one_word, checks _ _ _ keeper)
