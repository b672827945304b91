use Rattle.std.proofs.Common.{ap, arith}
use Rattle.fj_rules.proofs.Making.{made}
use Rattle.fj_slots.specs.Marked.{SerialList}
use Rattle.fj_body.proofs.Stored.{fresh_stored}
use Rattle.fj_bodies.proofs.NoneLost.{fresh_results}
use Rattle.fj_bodies.proofs.store.Store.new.Goals as goal

pub invariant_of-result : goal.invariant_of-result
invariant_of-result g c =
    let all = c.in_ok-bodies.ensures in
    let maps = made _ all.0 c.both-maps.ensures in
    let rest = made _ all.1 c.both-rest.ensures in
    rw (made _ rest.1 c.new-4.ensures.ok, made _ rest.0 c.new-3.ensures) (record {
      stored = fresh_stored c.args.mode c.args.limits _ _ (made _ maps.0 c.new.ensures.entries) (made _ maps.1 c.new-2.ensures.entries);
      complete = fresh_results c.args.mode c.args.limits _;
      room = record {
        bodies = omega (arith, c.tasks-room.ensures.number, made _ maps.0 c.new.ensures.room);
        results = omega (arith, c.tasks-room.ensures.number, made _ maps.1 c.new-2.ensures.room);
        taken = omega (arith, c.tasks-room.ensures.number);
        few = c.workers-workers.ensures.within.few_tasks;
      };
      rests = λ free u there. absurd cc;
    })

pub returns-clause-past : goal.returns-clause-past
returns-clause-past g c = made _ (made _ c.in_ok-bodies.ensures.1 c.both-rest.ensures).1 c.new-4.ensures.ok

pub returns-clause-bodies : goal.returns-clause-bodies
returns-clause-bodies g c = made _ (made _ c.in_ok-bodies.ensures.0 c.both-maps.ensures).0 c.new.ensures.entries

pub returns-clause-results : goal.returns-clause-results
returns-clause-results g c = made _ (made _ c.in_ok-bodies.ensures.0 c.both-maps.ensures).1 c.new-2.ensures.entries

pub returns-clause-taken : goal.returns-clause-taken
returns-clause-taken g c = ap (λ (l : SerialList). l.items) (made _ (made _ c.in_ok-bodies.ensures.1 c.both-rest.ensures).0 c.new-3.ensures)
