use Rattle.std.proofs.Common.{sym, ◌∙◌}
use Rattle.fj_fronts.proofs.Steps.{has_word, shows}
use Rattle.fj_fronts.proofs.keeper.Keeper.front.Goals as goal

pub split_seat-requires : goal.split_seat-requires
split_seat-requires g c =
    let named = c.log.invariant in
    (c.self.invariant.of_log ∙ sym named.place, has_word _ _ named.place named.one_word, shows _ c.self.inside.token.me.0)
