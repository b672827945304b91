-- What the numbers of a call ask for.
use Rattle.std.specs.Prelude.{ℕ, Bool, ◌==◌, if◌then◌else◌, Option, Some, None}
use Rattle.fj_rules.specs.declared.mode.Mode.{Mode}
use Rattle.fj_rules.specs.declared.mode.Mode.TheVariants.{Async, Joining}
use Rattle.fj_rules.specs.declared.step.Ending.{Ending}
use Rattle.fj_rules.specs.declared.step.Ending.TheVariants as ending
use Rattle.fj_codes.specs.declared.codes.TheConstants.{NO_TASK}

abbrev pub mode_in : ℕ → Option Mode
mode_in n = if n == 0 then Some Async else if n == 1 then Some Joining else None

-- how a body ends; the fault is that of the last one
abbrev pub ending_in : ℕ → ℕ → Option Ending
ending_in n fault =
    if n == 0 then Some ending.Ok
    else if n == 1 then Some ending.Quiet
    else if n == 2 then Some ending.Try
    else if n == 3 then Some ending.Pass
    else if n == 4 then Some ending.Complete
    else if n == 5 then Some (ending.Fail fault)
    else None

-- the parent, if there is one
abbrev pub parent_in : ℕ → Option ℕ
parent_in n = if n == NO_TASK then None else Some n
