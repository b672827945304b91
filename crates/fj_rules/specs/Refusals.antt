-- The numbers of refusals.
use Rattle.std.specs.Prelude.{ℕ}
use Rattle.fj_rules.specs.declared.refusal.Refusal.{Refusal}
use Rattle.fj_rules.specs.declared.refusal.Refusal.TheVariants as refusal

-- the number that a refusal is printed as
abbrev pub refusal_number : Refusal → ℕ
refusal_number refusal.Closed = 1
refusal_number refusal.TooManyTasks = 2
refusal_number refusal.LogFull = 3
refusal_number refusal.NoSuch = 4
refusal_number refusal.Unknown = 5
refusal_number refusal.NotRunning = 6
refusal_number refusal.OwnStack = 7
refusal_number refusal.NotCompleter = 8
refusal_number refusal.NotDone = 9
refusal_number refusal.CountTooLarge = 10
refusal_number refusal.LaneSpent = 11
refusal_number refusal.OutOfMemory = 12
refusal_number refusal.BadLimits = 13
refusal_number refusal.NotIdle = 14
