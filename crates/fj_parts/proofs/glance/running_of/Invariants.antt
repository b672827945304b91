use Rattle.std.proofs.Common.{◌≡◌, ◌≤◌}
use Rattle.fj_parts.specs.Glances.{busy_below}
use Rattle.fj_parts.proofs.glance.running_of.Given as goal

-- those that have something to do so far, and no more than there are
abbrev pub invariant-loop-w : goal.invariant-loop-w
invariant-loop-w l = (l.running ≡ busy_below l.machine.events l.w) × (l.running ≤ l.w)
