use Rattle.std.proofs.Common.{◌≡◌, ◌<◌, map, take}
use Rattle.std.specs.Prelude.{option_map, slice_get}
use Rattle.fj_tree.specs.Handles.{Handle}
use Rattle.fj_rules.specs.declared.event.Event.TheVariants.{Pass}
use Rattle.fj_rules.specs.Climbs.{passed, path}
use Rattle.fj_rules.specs.Runs.{grown}
use Rattle.fj_machine.proofs.steps.end.pass.pass_all.Given as goal

-- so many were passed, and the next one stands at that place of the way
abbrev pub invariant-loop : goal.invariant-loop
invariant-loop l = record {
  past : l.ledger ≡ grown l.fn.ledger (map Pass (take l.counter (passed l.fn.ledger.events l.fn.t.serial)));
  next : l.counter < l.count → option_map (λ (x : Handle). x.serial) l.at ≡ slice_get (path l.fn.ledger.events l.fn.t.serial) l.counter;
}
