use Rattle.fj_checker.proofs.Held.{NoneBelow}
use Rattle.fj_checker.proofs.rules.hands.holder.Given as goal

-- none of the workers so far has it in the hand
abbrev pub invariant-loop-w : goal.invariant-loop-w
invariant-loop-w l = NoneBelow l.ledger.events l.c l.w
