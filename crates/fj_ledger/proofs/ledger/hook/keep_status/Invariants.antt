use Rattle.std.proofs.Common.{◌≡◌, ◌++◌, map, take, drop}
use Rattle.std.specs.Prelude.{option_map}
use Rattle.fj_ledger.specs.InHands.{released_with}
use Rattle.fj_ledger.proofs.ledger.hook.keep_status.Given as goal

-- the hands so far are changed
abbrev pub invariant-loop-hand : goal.invariant-loop-hand
invariant-loop-hand l = record {
  changed : l.hands ≡ map (option_map (released_with l.c l.status)) (take l.hand-index l.fn.hands) ++ drop l.hand-index l.fn.hands;
}
