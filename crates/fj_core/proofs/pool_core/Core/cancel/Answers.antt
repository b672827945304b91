use Rattle.std.proofs.Common.{refl, subst}
use Rattle.fj_body.specs.Stores.{StaysInside}
use Rattle.fj_body.proofs.Acts.{settles_leave}
use Rattle.fj_core.proofs.Frames.{core_stays}
use Rattle.fj_core.proofs.Parts.{parts_stay}
use Rattle.fj_core.proofs.pool_core.Core.cancel.Goals as goal

pub invariant_of-self : goal.invariant_of-self
invariant_of-self g c =
    let stays = (settles_leave _ _ _ _ refl refl c.cancel.ensures).inside in
    record {
      core = core_stays _ _ _ _ _ stays c.self.invariant.core;
      room = c.self.invariant.room;
      parts = parts_stay _ _ _ stays c.self.invariant.parts;
    }

pub invariant_of-self-in-Hear-No : goal.invariant_of-self-in-Hear-No
invariant_of-self-in-Hear-No g c =
    let stays = (settles_leave _ _ _ _ refl refl c.cancel.ensures).inside in
    record {
      core = core_stays _ _ _ _ _ stays c.self.invariant.core;
      room = c.self.invariant.room;
      parts = parts_stay _ _ _ stays c.self.invariant.parts;
    }

pub returns-in-Hear-Yes-clause-stays : goal.returns-in-Hear-Yes-clause-stays
returns-in-Hear-Yes-clause-stays g c = subst (λ s. StaysInside s.store c.cancel.new.self) c.self.view_is (settles_leave _ _ _ _ refl refl c.cancel.ensures).inside

pub returns-in-Hear-No-clause-stays : goal.returns-in-Hear-No-clause-stays
returns-in-Hear-No-clause-stays g c = subst (λ s. StaysInside s.store c.cancel.new.self) c.self.view_is (settles_leave _ _ _ _ refl refl c.cancel.ensures).inside
