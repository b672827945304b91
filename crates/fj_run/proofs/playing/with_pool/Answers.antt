use Rattle.std.proofs.Common.{◌≡◌, IfOk, ap, ◌∙◌, subst}
use Rattle.fj_parts.specs.Winding.{tickets_of}
use Rattle.fj_run.proofs.Tickets.{none_drawn}
use Rattle.fj_run.proofs.playing.with_pool.Goals as goal

pub open_and_play-requires-clause-unused : goal.open_and_play-requires-clause-unused
open_and_play-requires-clause-unused g c _ _ =
    let new = c.in-Ok.ensures in
    ap (λ seats. tickets_of seats) new.seats ∙ none_drawn g.row.B.Denot c.in-Ok.parts.closer c.args.settings.lane_capacity 0 new.lanes

pub returns-in-Ok-clause-pool : goal.returns-in-Ok-clause-pool
returns-in-Ok-clause-pool g c = subst (λ pool. IfOk c.open_and_play.result (λ r. r.record.machine.pool ≡ pool)) (ap (λ past. past.pool) c.in-Ok.ensures.core.past) c.open_and_play.ensures.pool
