use Rattle.std.proofs.Common.{arith, below_more}
use Rattle.fj_wake.proofs.waits.looking.wake_awaiting.Goals as goal

pub loop-seat-preserved : goal.loop-seat-preserved
loop-seat-preserved g c = record {
  used = λ p k is. c.loop-seat.invariant.used p k (c.look_at_seat.ensures.fewer p k is);
  so_far = below_more _ _ (λ p low k is. c.loop-seat.invariant.so_far p low k (c.look_at_seat.ensures.fewer p k is)) c.look_at_seat.ensures.here;
}

pub returns-clause-seats : goal.returns-clause-seats
returns-clause-seats g c = λ p k is. c.loop-seat.invariant.so_far p (omega (arith, c.loop-seat-test.false, c.loop-seat.invariant.used p k is)) k is

pub returns-clause-used : goal.returns-clause-used
returns-clause-used g c = c.loop-seat.invariant.used
