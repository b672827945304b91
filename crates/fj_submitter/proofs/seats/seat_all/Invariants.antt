use Rattle.std.proofs.Common.{◌≡◌, length}
use Rattle.fj_submitter.specs.Seats.{AreSeated}
use Rattle.fj_submitter.proofs.seats.seat_all.Given as goal

abbrev pub invariant-loop-entrant : goal.invariant-loop-entrant
invariant-loop-entrant g l = record {
  next : (goal.iterator-loop-entrant g).can_next l.entrant-iterator;
  finite : (goal.iterator-loop-entrant g).is_finite l.entrant-iterator;
  counted : l.number ≡ length l.yielded;
  seated : AreSeated l.fn.lane_capacity l.yielded l.seats.items l.drains.items;
}
