use Rattle.fj_core.proofs.Parts.{parts_handed}
use Rattle.fj_core.proofs.pool_core.Core.take_parts.Goals as goal

pub invariant_of-self : goal.invariant_of-self
invariant_of-self g c =
    record {
      core = c.self.invariant.core;
      room = c.self.invariant.room;
      parts = parts_handed c.self.inside.archive c.take.new.self _ c.take.ensures.handed c.self.invariant.parts;
    }
