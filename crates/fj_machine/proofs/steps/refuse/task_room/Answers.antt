use Rattle.std.proofs.Common.{◌≡◌, ◌≤◌, false, refl, arith}
use Rattle.std.specs.Prelude.{nat_lt}
use Rattle.std.proofs.lemmas.Bool.{le-ltb}
use Rattle.fj_rules.specs.declared.limits.TheConstants.{MAX_PENDING}
use Rattle.fj_rules.specs.Tasks.{live}
use Rattle.fj_machine.proofs.Outcomes.Refusing.{is_full, not_below}
use Rattle.fj_machine.proofs.steps.refuse.task_room.Goals as goal

pub returns-then-not-has_task_room : goal.returns-then-not-has_task_room
returns-then-not-has_task_room c =
    let pool = c.args.ledger.now.pool in
    let h = c.args.ledger.now.events in
    let small : nat_lt MAX_PENDING c.args.count ≡ false = le-ltb MAX_PENDING c.args.count (omega (arith, c.if-from-gt-MAX_PENDING.false, c.from.ensures)) in
    let over : pool.limits.tasks ≤ live h = not_below c.has_task_room.result (live h) pool.limits.tasks c.if-not-has_task_room.true c.has_task_room.ensures.1 in
    rw (small, is_full pool h c.requires.lawful over) refl
