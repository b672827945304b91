use Rattle.std.proofs.Common.{◌≡◌, ◌≤◌, false, length, drop}
use Rattle.fj_rules.specs.Lists.{is_in}
use Rattle.fj_slots.proofs.serial_set.remove_last.Given as goal

-- the number does not stand from here on
abbrev pub invariant-loop-i : goal.invariant-loop-i
invariant-loop-i l = (l.numbers ≡ l.initial.numbers) × (l.i ≤ length l.numbers.items) × (is_in l.t (drop l.i l.numbers.items) ≡ false)

abbrev pub decreases-loop-i : goal.decreases-loop-i
decreases-loop-i l = l.i
