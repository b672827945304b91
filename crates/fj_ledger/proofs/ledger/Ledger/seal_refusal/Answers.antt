use Rattle.std.proofs.Common.{◌≡◌, ◌+◌, true, false, length, ap, ◌∙◌}
use Rattle.std.specs.Prelude.{nat_lt}
use Rattle.fj_rules.specs.Pasts.{Past}
use Rattle.fj_rules.specs.declared.epoch.TheConstants.{MAX_EVENTS_AND_SEALS}
use Rattle.fj_rules.proofs.Headline.Sealing.{refused_busy, refused_shut, tested_worn}
use Rattle.fj_ledger.proofs.ledger.Ledger.seal_refusal.Goals as goal
use Rattle.fj_ledger.proofs.ledger.Ledger.seal_refusal.Goals.{After-is_worn}

worn : (c : After-is_worn) → c.is_worn.result ≡ nat_lt MAX_EVENTS_AND_SEALS (length c.args.self.now.events + c.args.self.now.seals)
worn c = c.is_worn.ensures ∙ ap (λ (p : Past). nat_lt MAX_EVENTS_AND_SEALS (length p.events + p.seals)) c.self.view_is

pub returns-then-not-is_quiet : goal.returns-then-not-is_quiet
returns-then-not-is_quiet c = refused_busy c.args.self.now c.is_quiet.result c.is_quiet.ensures.quiet c.if-not-is_quiet.true

pub returns-then-is_shut : goal.returns-then-is_shut
returns-then-is_shut c =
    refused_shut c.args.self.now c.is_quiet.result c.is_shut.result c.is_quiet.ensures.quiet c.if-not-is_quiet.false c.is_shut.ensures.closed c.if-is_shut.true

pub returns-then-is_worn : goal.returns-then-is_worn
returns-then-is_worn c =
    tested_worn c.args.self.now c.is_quiet.result c.is_shut.result c.is_worn.result true c.is_quiet.ensures.quiet c.if-not-is_quiet.false c.is_shut.ensures.closed c.if-is_shut.false
    (worn (goal.at.returns-then-is_worn c).After-is_worn) c.if-is_worn.true

pub returns : goal.returns
returns c =
    tested_worn c.args.self.now c.is_quiet.result c.is_shut.result c.is_worn.result false c.is_quiet.ensures.quiet c.if-not-is_quiet.false c.is_shut.ensures.closed c.if-is_shut.false
    (worn (goal.at.returns c).After-is_worn) c.if-is_worn.false
