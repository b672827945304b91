use Rattle.std.proofs.Common.{◌≡◌, ◌-◌, ◌++◌, length, replicate, vec_capacity, None}
use Rattle.fj_slots.proofs.slots.write_up_to.Given as goal

-- the empty slots so far, in the same memory
abbrev pub invariant-loop-slot : goal.invariant-loop-slot
invariant-loop-slot g l =
    (l.written.items ≡ l.initial.written.items ++ replicate (l._slot - length l.initial.written.items) None) × (vec_capacity l.written ≡ vec_capacity l.initial.written)
