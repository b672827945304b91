use Rattle.fj_rules.specs.Pasts.{Past}
use Rattle.fj_rules.proofs.Headline.Sealing.{seal_past}
use Rattle.fj_rules.proofs.Headline.Parting.{seal_fits}
use Rattle.fj_machine.proofs.machine.Machine.seal.Goals as goal

pub invariant_of-self : goal.invariant_of-self
invariant_of-self c =
    let old : Past = c.self.inside.ledger in
    seal_past c.seal.result old c.seal.new.self c.self.invariant c.seal.ensures.may c.seal.ensures.sealed c.seal.ensures.stays

pub returns-clause-fits : goal.returns-clause-fits
returns-clause-fits c =
    let old : Past = c.self.inside.ledger in
    rw (← c.self.view_is) (seal_fits c.seal.result old c.seal.new.self c.self.invariant c.seal.ensures.events c.seal.ensures.gone c.seal.ensures.sealed)
