use Rattle.std.proofs.Common.{◌≡◌}
use Rattle.fj_submitter.proofs.seats.name_all.Given as goal

abbrev pub invariant-loop-seat : goal.invariant-loop-seat
invariant-loop-seat g l = record {
  next : (goal.iterator-loop-seat g).can_next l.seat-iterator;
  finite : (goal.iterator-loop-seat g).is_finite l.seat-iterator;
  same : l.submitters.items ≡ l.yielded;
}
