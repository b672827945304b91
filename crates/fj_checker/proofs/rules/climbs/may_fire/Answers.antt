use Rattle.std.proofs.Common.{◌≡◌, refl, sym, ap, ◌∙◌}
use Rattle.fj_rules.specs.Climbs.{Fires}
use Rattle.fj_tree.specs.declared.arrive.Arrived.{Arrived}
use Rattle.fj_tree.specs.declared.arrive.Arrived.TheVariants as arrive
use Rattle.fj_ledger.specs.Arriving.{as_arrival}
use Rattle.fj_checker.proofs.Told.{unkept, told_of, never_arrives, plain_arrives, does_arrive, other_arrives}
use Rattle.fj_checker.proofs.rules.climbs.may_fire.Goals as goal

-- only this one is read so
only : (a : Arrived) → as_arrival a ≡ Fires → a ≡ arrive.Fire
only arrive.Spent is = absurd cc
only arrive.Counted is = absurd cc
only arrive.Early is = absurd cc
only arrive.Fire is = refl

pub returns-in_default : goal.returns-in_default
returns-in_default c =
    let now = c.args.ledger.now in
    let none = unkept now.events c.args.c c.find.result c.find.ensures.record c.in_default.is in
    (λ bad. absurd cc, λ may. absurd (never_arrives now.pool now.events c.args.c Fires c.find.ensures.lawful.allowed none (λ same. absurd cc) may))

pub returns-then-not-is_completer : goal.returns-then-not-is_completer
returns-then-not-is_completer c =
    let now = c.args.ledger.now in
    let told = told_of now.events c.args.c c.find.result c.in-Some.record c.find.ensures.record c.in-Some.is in
    (λ bad. absurd cc, λ may. absurd (plain_arrives now.events c.args.c c.in-Some.record.now _ told (sym c.is_completer.ensures ∙ c.if-not-is_completer.true) may))

pub returns-in-Fire : goal.returns-in-Fire
returns-in-Fire c =
    let now = c.args.ledger.now in
    let told = told_of now.events c.args.c c.find.result c.in-Some.record c.find.ensures.record c.in-Some.is in
    (λ yes. does_arrive now.events c.args.c c.in-Some.record.now Fires told (sym c.is_completer.ensures ∙ c.if-not-is_completer.false) (ap as_arrival (sym c.arrival.ensures ∙ c.in-Fire.is)), λ may. refl)

pub returns-in_default-arrival : goal.returns-in_default-arrival
returns-in_default-arrival c =
    let now = c.args.ledger.now in
    let told = told_of now.events c.args.c c.find.result c.in-Some.record c.find.ensures.record c.in-Some.is in
    (λ bad. absurd cc, λ may. absurd (other_arrives now.events c.args.c c.in-Some.record.now Fires told (λ same. c.in_default-arrival.not-Fire (c.arrival.ensures ∙ only _ same)) may))
