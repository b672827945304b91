use Rattle.fj_wake.proofs.waking_core.WakingCoreCoreSeats.stand_up.Goals as goal

pub invariant_of-self : goal.invariant_of-self
invariant_of-self g c = c.stand_up.ensures _ _ c.self.invariant
