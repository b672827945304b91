use Rattle.std.proofs.Common.{◌≡◌, ◌≤◌, ◌*◌}
use Rattle.fj_jobs.specs.Ranges.{range_sum}
use Rattle.fj_jobs.proofs.interval.Interval.sum.Given as goal

-- the sum of the numbers so far, none of which is above 2 ^ 32 - 1
abbrev pub invariant-loop-i : goal.invariant-loop-i
invariant-loop-i l = (l.sum ≡ range_sum l.self.from l.i) × (l.sum ≤ l.i * 4294967295)
