use Rattle.std.proofs.Common.{refl, sym, ◌∙◌}
use Rattle.std.proofs.lemmas.Bool.{true≢false}
use Rattle.fj_checker.proofs.Told.{told_of, kept_is, completer_is}
use Rattle.fj_checker.proofs.rules.accepts.may_be_parent.Goals as goal

pub returns-then-not-is_completer : goal.returns-then-not-is_completer
returns-then-not-is_completer c =
    let now = c.args.ledger.now in
    let told = told_of now.events c.in-Some.p c.find.result c.in-Some-find.record c.find.ensures.record c.in-Some-find.is in
    rw c.in-Some.is (λ bad. absurd cc, λ may. absurd (true≢false (sym may.1 ∙ completer_is now.events c.in-Some.p c.in-Some-find.record.now told ∙ sym c.is_completer.ensures ∙ c.if-not-is_completer.true)))

pub returns : goal.returns
returns c =
    let now = c.args.ledger.now in
    let told = told_of now.events c.in-Some.p c.find.result c.in-Some-find.record c.find.ensures.record c.in-Some-find.is in
    rw c.in-Some.is (λ yes. (kept_is now.events c.in-Some.p c.in-Some-find.record.now told, completer_is now.events c.in-Some.p c.in-Some-find.record.now told ∙ sym c.is_completer.ensures ∙ c.if-not-is_completer.false), λ may. refl)
