use Rattle.fj_wake.proofs.waking_core.WakingCoreCoreSeats.sit_for_any.Goals as goal

pub invariant_of-self : goal.invariant_of-self
invariant_of-self g c = c.sit_for_any.ensures _ _ c.self.invariant
