use Rattle.std.proofs.Common.{◌≡◌}
use Rattle.fj_calls.specs.Cores.{first_hands}
use Rattle.fj_core.proofs.first_hands.new_hands.Given as goal

abbrev pub invariant-loop-w : goal.invariant-loop-w
invariant-loop-w g l = l.hands.items ≡ first_hands l.w l.start
