use Rattle.std.proofs.Common.{arith, rules}
use Rattle.fj_rules.specs.Bounds.{Pool}
use Rattle.fj_rules.proofs.Making.{made}
use Rattle.fj_ledger.proofs.Updates.Fresh.{fresh_holds}
use Rattle.fj_ledger.proofs.ledger.Ledger.new.Goals as goal

pub invariant_of-result : goal.invariant_of-result
invariant_of-result c =
    let pool : Pool = record { mode = c.args.mode; limits = c.args.limits } in
    let all = c.in_ok-queues.ensures in
    let known = made _ all.0 c.both.ensures in
    let lists = made _ known.0 c.both-lists.ensures in
    let kept = made _ known.1 c.both-kept.ensures in
    let rest = made _ all.1 c.both-2.ensures in
    let past = made _ rest.0 c.both-past.ensures in record {
      holds = rw (made _ past.0 c.new-5.ensures, made _ lists.0 c.new.ensures, made _ lists.1 c.new-2.ensures, made _ rest.1 c.from_elem-hands.ensures.items_if_clones_equal (λ y is. search rules), made _ kept.0 c.new-3.ensures, made _ kept.1 c.new-4.ensures, made _ past.1 c.with_capacity.ensures.items, c.submitters.ensures.number, c.workers-workers.ensures.number, c.tasks-tasks.ensures.number)
          (fresh_holds pool c.workers-workers.ensures.within);
      log_room = rw (made _ past.0 c.new-5.ensures) (c.events-events.ensures.number);
      open_room = rw (made _ kept.1 c.new-4.ensures) (c.tasks-tasks.ensures.number);
      gone_room = omega (arith, made _ past.1 c.with_capacity.ensures.capacity);
    }
