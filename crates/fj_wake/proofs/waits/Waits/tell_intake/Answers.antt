use Rattle.fj_calls.specs.Cores.{is_awaited}
use Rattle.fj_calls.specs.Joins.{is_joinable}
use Rattle.fj_wake.proofs.waits.Waits.tell_intake.Goals as goal

pub returns-then-is_stuck : goal.returns-then-is_stuck
returns-then-is_stuck g c = λ joinable awaited only still. c.wake_all.ensures (is_joinable c.args.core.now) (is_awaited c.args.core.now)

pub returns-then-took : goal.returns-then-took
returns-then-took g c = λ joinable awaited only still. c.wake_several.ensures (is_joinable c.args.core.now) (is_awaited c.args.core.now) c.look_up.ensures
