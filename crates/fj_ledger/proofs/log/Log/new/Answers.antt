use Rattle.std.proofs.Common.{arith, refl}
use Rattle.fj_rules.specs.Allowed.{is_closed, is_stopped}
use Rattle.fj_ledger.proofs.log.Log.new.Goals as goal

pub invariant_of-result : goal.invariant_of-result
unfolding is_closed is_stopped
invariant_of-result c = record {
  fits = omega (arith, c.in_ok-with_capacity.ensures.capacity);
  closed = rw c.in_ok-with_capacity.ensures.items refl;
  stopped = rw c.in_ok-with_capacity.ensures.items refl;
  sealed = refl;
  seals = refl;
  few = omega arith;
}
