use Rattle.std.proofs.Common.{refl}
use Rattle.fj_streams.proofs.Bytes.{write_step}
use Rattle.fj_streams.proofs.CallsMade.{fine_twice}
use Rattle.fj_streams.proofs.writes.write_whole.Goals as goal

pub loop-at-preserved : goal.loop-at-preserved
loop-at-preserved g c =
    let so_far = c.loop-at.invariant in
    let wrote = c.in_ok-at.ensures in
    let step = write_step _ _ _ _ _ _ _ so_far.0 so_far.1 wrote.count.1 wrote.bytes refl in
    (step.0, step.1, fine_twice _ _ _ so_far.2 wrote.fine)
