use Rattle.std.proofs.Common.{◌≡◌}
use Rattle.fj_parts.specs.Holdings.{hands_of}
use Rattle.fj_parts.proofs.named.name_hands.Given as goal

abbrev pub invariant-loop-hand : goal.invariant-loop-hand
invariant-loop-hand g l = record {
  next : (goal.iterator-loop-hand g).can_next l.hand-iterator;
  finite : (goal.iterator-loop-hand g).is_finite l.hand-iterator;
  same : l.hands.items ≡ hands_of l.yielded;
}
