use Rattle.std.proofs.Common.{◌<◌, ◌≤◌, length, sym, subst, arith}
use Rattle.std.proofs.lemmas.List.{get_or_read}
use Rattle.fj_rules.specs.Pasts.{Past}
use Rattle.fj_rules.specs.declared.kind.Kind.TheVariants.{Plain}
use Rattle.fj_checker.specs.declared.known.Known.{Known}
use Rattle.fj_checker.specs.Remembered.{Knows, first_known}
use Rattle.fj_checker.proofs.Remembering.{known_there, unknown_there}
use Rattle.fj_checker.proofs.checker.Checker.known.Goals as goal

pub returns-then-number-len : goal.returns-then-number-len
returns-then-number-len c =
    let past : Past = c.self.inside.ledger in
    let above : length c.self.inside.known.items ≤ c.args.t = omega (arith, c.if-number-len.true, c.len.ensures) in
    rw (← c.self.view_is) (unknown_there past.pool past.events c.self.inside.known.items c.args.t c.is_stopped-lawful.ensures.lawful.allowed c.self.invariant.count above)

pub returns : goal.returns
returns c =
    let past : Past = c.self.inside.ledger in
    let known = c.self.inside.known.items in
    let below : c.args.t < length known = omega (arith, c.if-number-len.false, c.len.ensures) in
    let found = rw c.t.view_is at c.index.ensures in
    let read = get_or_read known _ _ below found (first_known Plain) in
    rw (← c.self.view_is) (known_there past.pool past.events known c.args.t c.is_stopped-lawful.ensures.lawful.allowed c.self.invariant.count below, subst (λ (k : Known). Knows past.events c.args.t k) (sym read) (c.self.invariant.each c.args.t below))
