use Rattle.std.proofs.Common.{ap, sym, ◌∙◌}
use Rattle.std.proofs.lemmas.Bool.{true≢false}
use Rattle.std.proofs.lemmas.Option.{none-some}
use Rattle.fj_rules.specs.Answers.{taking}
use Rattle.fj_rules.specs.Pasts.{grown}
use Rattle.fj_checker.proofs.AnyScan.{any_scan, queued_by_take}
use Rattle.fj_checker.proofs.going.take.Goals as goal

pub unreachable-requires : goal.unreachable-requires
unreachable-requires c =
    let now = c.args.ledger.now in
    let at = queued_by_take now.pool now.events c.args.t c.args.w c.requires.may in
    true≢false (sym at.1 ∙ c.in_default.ensures at.0)

pub unreachable-requires-in_default-chosen : goal.unreachable-requires-in_default-chosen
unreachable-requires-in_default-chosen c =
    let now = c.args.ledger.now in
    let found = c.in-Some.ensures in
    let at = any_scan now.pool now.events c.args.w c.args.t c.in-Some.q c.is_stopped-lawful.ensures.lawful.allowed found.0 found.1 c.requires.may.chosen.0 c.requires.may.chosen.2 in
    none-some _ (sym c.in_default-chosen.ensures ∙ at)

pub returns : goal.returns
returns c =
    let now = c.args.ledger.now in
    let found = c.in-Some.ensures in
    let at = any_scan now.pool now.events c.args.w c.args.t c.in-Some.q c.is_stopped-lawful.ensures.lawful.allowed found.0 found.1 c.requires.may.chosen.0 c.requires.may.chosen.2 in
    c.take.ensures.events ∙ ap (λ t. grown now (taking now.events c.args.w t)) (sym c.in-Some-chosen.ensures.chosen ∙ at)
