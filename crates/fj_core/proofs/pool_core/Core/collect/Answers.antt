use Rattle.std.proofs.Common.{subst}
use Rattle.fj_body.specs.Stores.{StaysInside}
use Rattle.fj_body.proofs.Frames.{collects_stay}
use Rattle.fj_core.proofs.Frames.{core_stays}
use Rattle.fj_core.proofs.Parts.{parts_stay}
use Rattle.fj_core.proofs.pool_core.Core.collect.Goals as goal

pub invariant_of-self : goal.invariant_of-self
invariant_of-self g c =
    let stays = collects_stay _ _ _ _ c.collect.ensures in
    record {
      core = core_stays _ _ _ _ _ stays c.self.invariant.core;
      room = c.self.invariant.room;
      parts = parts_stay _ _ _ stays c.self.invariant.parts;
    }

pub returns-in-Some-clause-stays : goal.returns-in-Some-clause-stays
returns-in-Some-clause-stays g c = subst (λ s. StaysInside s.store c.collect.new.self) c.self.view_is (collects_stay _ _ _ _ c.collect.ensures)
