-- How far a target has come.
use Rattle.std.specs.Prelude.{ℕ, ◌+◌, ◌*◌, ◌-◌}
use Rattle.ex_build.specs.declared.make.Course.{Course}
use Rattle.ex_build.specs.declared.make.Course.TheVariants.{New, Adding, Forking, Taking}

-- how many turns are left at most, with so many inputs, of which so many were forked and so many taken
abbrev pub turns_left : ℕ → Course → ℕ → ℕ → ℕ
turns_left inputs New forked taken = 2 * inputs + 3
turns_left inputs (Adding me) forked taken = 2 * inputs + 2
turns_left inputs (Forking me) forked taken = inputs + 1 + (inputs - forked)
turns_left inputs Taking forked taken = inputs - taken
