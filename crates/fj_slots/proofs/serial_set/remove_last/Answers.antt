use Rattle.std.proofs.Common.{arith, sym, ◌∙◌, ◌≡◌, ◌-◌, ◌<◌, ◌≤◌, get_or, length}
use Rattle.std.proofs.lemmas.Bool.{eqb-true}
use Rattle.fj_rules.specs.Lists.{times_in}
use Rattle.fj_rules.proofs.Events.Queues.{without_absent}
use Rattle.fj_slots.proofs.TakenOut.{without_at}
use Rattle.fj_slots.proofs.serial_set.remove_last.Goals as goal

pub returns-then-eq-clause-items : goal.returns-then-eq-clause-items
returns-then-eq-clause-items c =
    let same : get_or c.loop-i.numbers.items (c.loop-i.i - 1) c.index.result.now ≡ c.args.t = sym c.index.ensures ∙ eqb-true c.index.result.now c.args.t (sym c.eq.ensures ∙ c.if-eq.true) in
    let within : c.loop-i.i - 1 < length c.loop-i.numbers.items = omega (arith, c.loop-i.invariant.1, c.loop-i-test.true) in
    let once : times_in c.args.t c.loop-i.numbers.items ≤ 1 = rw c.loop-i.invariant.0 c.requires in
    rw (c.remove-gone.ensures.items, ← c.loop-i.invariant.0) (sym (without_at c.args.t c.loop-i.numbers.items (c.loop-i.i - 1) c.index.result.now once within same))

pub returns-clause-items : goal.returns-clause-items
returns-clause-items c =
    let none : c.loop-i.i ≡ 0 = omega (arith, c.loop-i-test.false) in
    rw c.loop-i.invariant.0 (sym (without_absent c.args.numbers.now.items c.args.t (rw (none, c.loop-i.invariant.0) at c.loop-i.invariant.2)))
