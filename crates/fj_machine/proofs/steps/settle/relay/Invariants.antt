use Rattle.std.proofs.Common.{◌≡◌, ◌<◌, take}
use Rattle.std.specs.Prelude.{option_map, slice_get}
use Rattle.fj_tree.specs.Handles.{Handle}
use Rattle.fj_rules.specs.Climbs.{relayed, path}
use Rattle.fj_rules.specs.Runs.{grown}
use Rattle.fj_rules.proofs.Events.Settling.{settles}
use Rattle.fj_machine.proofs.steps.settle.relay.Given as goal

-- so many are settled, and the next one stands at that place of the way
abbrev pub invariant-loop : goal.invariant-loop
invariant-loop l = record {
  past : l.ledger ≡ grown l.fn.ledger (settles l.fn.code (take l.counter (relayed l.fn.ledger.events l.fn.t.serial)));
  next : l.counter < l.count → option_map (λ (x : Handle). x.serial) l.at ≡ slice_get (path l.fn.ledger.events l.fn.t.serial) l.counter;
}
