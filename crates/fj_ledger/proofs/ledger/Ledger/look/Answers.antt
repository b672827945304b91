use Rattle.std.proofs.Common.{subst}
use Rattle.fj_rules.specs.Pasts.{limit}
use Rattle.fj_rules.specs.Runs.{Past}
use Rattle.fj_ledger.specs.Holds.{IsLawful}
use Rattle.fj_ledger.proofs.Histories.Lawfuls.{lawful}
use Rattle.fj_ledger.proofs.Recorded.Located.{looked}
use Rattle.fj_ledger.proofs.ledger.Ledger.look.Goals as goal

pub returns-clause-record : goal.returns-clause-record
returns-clause-record c =
    let h = c.self.inside.log.events in
    let limits = c.self.inside.limits in
    rw (c.look.ensures.found, ← c.self.view_is) (looked limits h c.self.inside.tree c.args.t.serial c.self.invariant.holds.tree_kept)

pub returns-clause-lawful : goal.returns-clause-lawful
returns-clause-lawful c = subst (λ (p : Past). IsLawful p.pool (limit p) p.events) c.self.view_is (lawful _ _ _ _ _ _ _ _ c.self.invariant.holds)
