use Rattle.std.proofs.Common.{rules, IsOk}
use Rattle.fj_checker.proofs.checker.Checker.may_hand_hook.Goals as goal

pub returns : goal.returns
returns c =
    let ok : IsOk c.may_fire.result = search rules in
    let parts = c.may_fire.ensures.0 ok in
    let hand = c.may_receive.ensures c.args.how in
    (λ yes. (parts.0, parts.1, hand.0 yes), λ may. hand.1 may.2)
