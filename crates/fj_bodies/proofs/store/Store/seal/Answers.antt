use Rattle.fj_bodies.proofs.Sealing.{seal_stored, seal_pool, seal_rests}
use Rattle.fj_bodies.proofs.NoneLost.{seal_results}
use Rattle.fj_bodies.proofs.store.Store.seal.Goals as goal

pub invariant_of-self : goal.invariant_of-self
invariant_of-self g c =
    let past = c.self.inside.machine in
    record {
      stored = seal_stored c.seal.result past c.seal.new.self _ _ _ c.self.invariant.stored c.seal.ensures.may c.seal.ensures.sealed c.seal.ensures.stays;
      complete = seal_results c.seal.result past c.seal.new.self _ _ c.self.invariant.complete c.seal.ensures.sealed c.seal.ensures.stays;
      room = rw (seal_pool c.seal.result past c.seal.new.self c.seal.ensures.sealed c.seal.ensures.stays) c.self.invariant.room;
      rests = λ free. seal_rests c.seal.result past c.seal.new.self c.self.inside.taken.items c.seal.ensures.sealed c.seal.ensures.stays (c.self.invariant.rests free);
    }
