use Rattle.std.proofs.Common.{rules, IsOk, ◌≡◌, true}
use Rattle.fj_history.specs.declared.entry.Entry.TheVariants.{Event}
use Rattle.fj_check.specs.Rules.{can_come}
use Rattle.fj_check.proofs.Tested.{come_tested}
use Rattle.fj_check.proofs.history_check.append.Goals as goal
use Rattle.fj_check.proofs.history_check.append.Goals.{After-may_follow}

comes : (c : After-may_follow) → IsOk c.may_follow.result → can_come c.args.checker.now (Event c.args.event.now) ≡ true
comes c ok = come_tested c.args.checker.now (Event c.args.event.now) c.may_follow.ensures.lawful (c.may_follow.ensures.follows.0 ok)

pub returns-in_default-checked_add-clause-err : goal.returns-in_default-checked_add-clause-err
returns-in_default-checked_add-clause-err c =
    let ok : IsOk c.may_follow.result = search rules in
    comes (goal.at.returns-in_default-checked_add-clause-err c).After-may_follow ok

pub returns-in-Err-append-clause-err : goal.returns-in-Err-append-clause-err
returns-in-Err-append-clause-err c =
    let ok : IsOk c.may_follow.result = search rules in
    comes (goal.at.returns-in-Err-append-clause-err c).After-may_follow ok

pub returns-in-Ok-clause-next : goal.returns-in-Ok-clause-next
returns-in-Ok-clause-next c =
    let ok : IsOk c.may_follow.result = search rules in
    let may = comes (goal.at.returns-in-Ok-clause-next c).After-may_follow ok in
    rw may (search rules)
