use Rattle.std.proofs.Common.{rules, sym, ◌∙◌}
use Rattle.fj_fronts.proofs.Steps.{compares, has_word, joins}
use Rattle.fj_fronts.proofs.front.Front.longer.Goals as goal

pub join_seat-requires : goal.join_seat-requires
join_seat-requires g c =
    let named = c.log.invariant in
    (c.self.invariant.of_log ∙ sym named.place, c.other.invariant.of_log ∙ sym named.place, search rules, has_word _ _ named.place named.one_word, joins _ _ _ _)

pub load-requires : goal.load-requires
load-requires g c =
    let named = c.log.invariant in
    (c.join_seat.ensures.0 ∙ c.self.invariant.of_log ∙ sym named.place, has_word _ _ named.place named.one_word, compares _ _ _)
