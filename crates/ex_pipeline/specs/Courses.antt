-- How far a stage has come.
use Rattle.std.specs.Prelude.{ℕ}
use Rattle.ex_pipeline.specs.declared.flow.Course.{Course}
use Rattle.ex_pipeline.specs.declared.flow.Course.TheVariants.{New, Forking, Ended, Taking}

-- how many turns are left at most
abbrev pub turns_left : Course → ℕ
turns_left New = 3
turns_left Forking = 2
turns_left (Ended task) = 1
turns_left Taking = 0
