use Rattle.std.proofs.Common.{ap, ◌∙◌}
use Rattle.std.specs.Prelude.{option_copied}
use Rattle.std.proofs.lemmas.Option.{MatchOption-at_some}
use Rattle.fj_rules.specs.Climbs.{arrival}
use Rattle.fj_ledger.specs.Arriving.{as_arrival}
use Rattle.fj_ledger.proofs.Recorded.ArrivalsTold.{arrival_told, released_told}
use Rattle.fj_machine.proofs.steps.end.arrive.arrival.Goals as goal
use Rattle.fj_machine.proofs.Outcomes.Found.{unkept}

pub returns-in-None-clause-arrival : goal.returns-in-None-clause-arrival
returns-in-None-clause-arrival c =
    released_told c.args.ledger.now.pool c.args.ledger.now.events c.args.c.serial c.look.ensures.lawful.allowed c.requires.completer (unkept c.args.ledger.now.events c.args.c.serial c.look.result c.look.ensures.record c.in-None.is)

pub returns-in-Some-clause-arrival : goal.returns-in-Some-clause-arrival
returns-in-Some-clause-arrival c =
    let told = MatchOption-at_some _ _ _ (ap option_copied c.in-Some.is) c.look.ensures.record in
    ap as_arrival c.arrival.ensures ∙ arrival_told c.args.ledger.now.events c.in-Some.record.now told.tells ∙ ap (arrival c.args.ledger.now.events) told.number
