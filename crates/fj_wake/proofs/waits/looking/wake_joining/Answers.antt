use Rattle.std.proofs.Common.{◌∙◌, arith, below_more}
use Rattle.fj_wake.proofs.Fewer.{all_of}
use Rattle.fj_calls.specs.Joins.{is_joinable}
use Rattle.fj_wake.proofs.waits.looking.wake_joining.Goals as goal

pub loop-place-preserved : goal.loop-place-preserved
loop-place-preserved g c = record {
  long = c.look_at_worker.ensures.long ∙ c.loop-place.invariant.long;
  so_far = below_more _ _ (λ p low t is. c.loop-place.invariant.so_far p low t (c.look_at_worker.ensures.fewer p t is)) c.look_at_worker.ensures.here;
}

pub returns : goal.returns
returns g c = all_of (is_joinable c.args.core.now) c.loop-place.workers.places c.loop-place.place (omega (arith, c.loop-place-test.false, c.loop-place.invariant.long, c.len-place-end.ensures)) c.loop-place.invariant.so_far
