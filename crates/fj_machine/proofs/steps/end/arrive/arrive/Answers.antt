use Rattle.std.proofs.Common.{sym, ap, ◌∙◌}
use Rattle.fj_ledger.specs.Arriving.{as_arrival}
use Rattle.fj_ledger.proofs.Recorded.ArrivalsTold.{arrived_kept}
use Rattle.fj_machine.proofs.steps.end.arrive.arrive.Goals as goal

pub count_down-requires-clause-kept : goal.count_down-requires-clause-kept
count_down-requires-clause-kept c =
    arrived_kept c.args.ledger.now.pool c.args.ledger.now.events c.args.c.serial _ c.arrival.ensures.lawful.allowed c.requires.completer (sym c.arrival.ensures.arrival ∙ ap as_arrival c.in-Counted.is) (λ same. absurd cc)

pub fire-requires-clause-kept : goal.fire-requires-clause-kept
fire-requires-clause-kept c =
    arrived_kept c.args.ledger.now.pool c.args.ledger.now.events c.args.c.serial _ c.arrival.ensures.lawful.allowed c.requires.completer (sym c.arrival.ensures.arrival ∙ ap as_arrival c.in-Fire.is) (λ same. absurd cc)
