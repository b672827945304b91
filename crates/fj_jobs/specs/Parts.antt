-- Consecutive numbers in two parts.
use Rattle.std.specs.Prelude.{◌≡◌, ◌+◌}
use Rattle.fj_jobs.specs.declared.interval.Interval.{Interval}

-- together they are all, and the first comes before the second
abbrev pub AreParts : Interval → Interval → Interval → Type 0
AreParts all first second = (first.from ≡ all.from) × (second.from ≡ all.from + first.count) × (first.count + second.count ≡ all.count)
