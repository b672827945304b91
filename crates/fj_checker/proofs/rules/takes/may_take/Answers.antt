use Rattle.std.proofs.Common.{sym, ◌∙◌}
use Rattle.std.proofs.lemmas.Bool.{true≢false}
use Rattle.fj_checker.proofs.AnyScan.{any_scan, queued_by_take}
use Rattle.fj_checker.proofs.rules.takes.may_take.Goals as goal

pub returns-in_default-queue_with-clause-may : goal.returns-in_default-queue_with-clause-may
returns-in_default-queue_with-clause-may c =
    let now = c.args.ledger.now in (
      λ bad. absurd cc,
      λ may.
          let at = queued_by_take now.pool now.events c.args.t c.args.w may in
          absurd (true≢false (sym at.1 ∙ c.in_default-queue_with.ensures at.0)),
    )

pub returns-then-not-chooses-clause-may : goal.returns-then-not-chooses-clause-may
returns-then-not-chooses-clause-may c =
    let now = c.args.ledger.now in (
      λ bad. absurd cc,
      λ may.
          let at = any_scan now.pool now.events c.args.w c.args.t c.in-Some-queue_with.q c.has_worker.ensures.lawful.allowed c.in-Some-queue_with.ensures.0 c.in-Some-queue_with.ensures.1 may.chosen.0 may.chosen.2 in
          absurd (true≢false (sym (c.chooses.ensures.1 at) ∙ c.if-not-chooses.true)),
    )
