use Rattle.std.proofs.Common.{ap, ◌∙◌}
use Rattle.fj_rules.specs.Tasks.{is_kept}
use Rattle.fj_checker.proofs.Told.{kept_by_firing}
use Rattle.fj_checker.proofs.going.fire.Goals as goal

pub fire-requires-clause-kept : goal.fire-requires-clause-kept
fire-requires-clause-kept c =
    let now = c.args.ledger.now in
    ap (is_kept now.events) c.named.ensures ∙ kept_by_firing now.pool now.events c.args.c c.args.how c.is_stopped-lawful.ensures.lawful.allowed c.requires.follows.allowed c.requires.follows.names
