use Rattle.fj_calls.specs.Cores.{is_awaited}
use Rattle.fj_calls.specs.Joins.{is_joinable}
use Rattle.fj_wake.proofs.Fewer.{looked}
use Rattle.fj_wake.proofs.waits.Waits.look_up.Goals as goal

pub returns : goal.returns
returns g c =
    looked (is_joinable c.args.core.now) (is_awaited c.args.core.now) c.look_at_workers.new.self c.look_at_seats.new.self c.look_at_crowd.new.self c.look_at_workers.ensures.workers c.look_at_seats.ensures.others
    c.look_at_seats.ensures.seats c.look_at_seats.ensures.used c.look_at_crowd.ensures.others c.look_at_crowd.ensures.crowd
