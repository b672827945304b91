use Rattle.std.proofs.Common.{refl, sym, ◌∙◌}
use Rattle.std.proofs.lemmas.Bool.{true≢false}
use Rattle.fj_checker.proofs.Told.{unkept, told_of, completer_is, plain_arrives, spent_is, left_spent}
use Rattle.fj_checker.proofs.rules.climbs.may_complete.Goals as goal

pub returns-in_default : goal.returns-in_default
returns-in_default c =
    let now = c.args.ledger.now in
    let none = unkept now.events c.args.c c.find.result c.find.ensures.record c.in_default.is in
    (λ bad. absurd cc, λ may. absurd (left_spent now.pool now.events c.args.c c.find.ensures.lawful.allowed none may.1 may.0.0))

pub returns-then-not-is_completer : goal.returns-then-not-is_completer
returns-then-not-is_completer c =
    let now = c.args.ledger.now in
    let told = told_of now.events c.args.c c.find.result c.in-Some.record c.find.ensures.record c.in-Some.is in
    (λ bad. absurd cc, λ may. absurd (plain_arrives now.events c.args.c c.in-Some.record.now _ told (sym c.is_completer.ensures ∙ c.if-not-is_completer.true) may))

pub returns-then-is_spent : goal.returns-then-is_spent
returns-then-is_spent c =
    let now = c.args.ledger.now in
    let told = told_of now.events c.args.c c.find.result c.in-Some.record c.find.ensures.record c.in-Some.is in
    (λ bad. absurd cc, λ may. absurd (true≢false (sym (spent_is now.events c.args.c c.in-Some.record.now told ∙ sym c.is_spent.ensures ∙ c.if-is_spent.true) ∙ may.0.0)))

pub returns : goal.returns
returns c =
    let now = c.args.ledger.now in
    let told = told_of now.events c.args.c c.find.result c.in-Some.record c.find.ensures.record c.in-Some.is in
    (λ yes. ((spent_is now.events c.args.c c.in-Some.record.now told ∙ sym c.is_spent.ensures ∙ c.if-is_spent.false, sym c.requires ∙ c.if-not-ended.false), completer_is now.events c.args.c c.in-Some.record.now told ∙ sym c.is_completer.ensures ∙ c.if-not-is_completer.false), λ may. refl)
