use Rattle.fj_wake.proofs.waking_core.WakingCoreCoreSeats.sit.Goals as goal

pub invariant_of-self : goal.invariant_of-self
invariant_of-self g c = c.sit.ensures _ _ c.self.invariant (rw c.self.view_is c.requires)
