use Rattle.std.proofs.Common.{subst}
use Rattle.fj_rules.specs.Pasts.{limit}
use Rattle.fj_rules.specs.Runs.{Past}
use Rattle.fj_ledger.specs.Holds.{IsLawful}
use Rattle.fj_ledger.proofs.Histories.Lawfuls.{lawful}
use Rattle.fj_ledger.proofs.ledger.Ledger.has_room.Goals as goal

pub returns-clause-lawful : goal.returns-clause-lawful
returns-clause-lawful c = subst (λ (p : Past). IsLawful p.pool (limit p) p.events) c.self.view_is (lawful _ _ _ _ _ _ _ _ c.self.invariant.holds)
