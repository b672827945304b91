use Rattle.std.proofs.Common.{◌≤◌, ap, arith}
use Rattle.fj_rules.specs.Bounds.{Bounds}
use Rattle.fj_checker.proofs.Held.{none_at_all}
use Rattle.fj_checker.proofs.rules.hands.holder.Goals as goal

pub returns : goal.returns
returns c =
    let now = c.args.ledger.now in
    let same = ap (λ (b : Bounds). b.workers) c.limits.ensures in
    let all : now.pool.limits.workers ≤ c.loop-w.w = omega (arith, c.loop-w-test.false, c.workers-w-end.ensures.number, same) in
    none_at_all now.pool now.events c.args.c c.loop-w.w c.is_stopped-lawful.ensures.lawful.allowed all c.loop-w.invariant
