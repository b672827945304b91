use Rattle.std.proofs.Common.{subst}
use Rattle.fj_body.specs.Stores.{StaysInside}
use Rattle.fj_body.proofs.Frames.{polls_stay}
use Rattle.fj_core.proofs.Frames.{core_stays}
use Rattle.fj_core.proofs.Parts.{parts_stay}
use Rattle.fj_core.proofs.pool_core.Core.poll.Goals as goal

pub invariant_of-self : goal.invariant_of-self
invariant_of-self g c =
    let stays = polls_stay _ _ _ _ _ c.poll.ensures.polls in
    record {
      core = core_stays _ _ _ _ _ stays c.self.invariant.core;
      room = c.self.invariant.room;
      parts = parts_stay _ _ _ stays c.self.invariant.parts;
    }

pub returns-clause-stays : goal.returns-clause-stays
returns-clause-stays g c = subst (λ s. StaysInside s.store c.poll.new.self) c.self.view_is (polls_stay _ _ _ _ _ c.poll.ensures.polls)
