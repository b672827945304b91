use Rattle.std.proofs.Common.{◌-◌, ◌≤◌}
use Rattle.fj_each.proofs.looping.for_each.Given as goal

abbrev pub invariant-loop-from : goal.invariant-loop-from
invariant-loop-from g l = (1 ≤ l.size) × (l.start ≤ l.from)

abbrev pub decreases-loop-from : goal.decreases-loop-from
decreases-loop-from g l = l.end - l.from
