use Rattle.std.proofs.Common.{refl, sym, ◌∙◌, arith, ◌+◌, ◌≤◌}
use Rattle.fj_rules.specs.declared.limits.TheConstants.{MAX_PENDING}
use Rattle.fj_checker.proofs.Told.{told_of, add_plain, add_may}
use Rattle.fj_checker.proofs.rules.climbs.may_add.Goals as goal

pub returns-then-not-is_completer : goal.returns-then-not-is_completer
returns-then-not-is_completer c =
    let now = c.args.ledger.now in
    let told = told_of now.events c.args.c c.find.result c.in-Some.record c.find.ensures.record c.in-Some.is in
    (λ bad. absurd cc, λ may. absurd (add_plain now.pool now.events c.args.c c.args.n c.in-Some.record.now told (sym c.is_completer.ensures ∙ c.if-not-is_completer.true) may))

pub returns : goal.returns
returns c =
    let now = c.args.ledger.now in
    let told = told_of now.events c.args.c c.find.result c.in-Some.record c.find.ensures.record c.in-Some.is in
    let few : c.in-Some.record.now.pending + c.args.n ≤ MAX_PENDING = omega (arith, c.if-from-gt-MAX_PENDING.false, c.from.ensures, c.from-2.ensures) in
    (λ yes. add_may now.pool now.events c.args.c c.args.n c.in-Some.record.now told (sym c.is_completer.ensures ∙ c.if-not-is_completer.false) few, λ may. refl)
