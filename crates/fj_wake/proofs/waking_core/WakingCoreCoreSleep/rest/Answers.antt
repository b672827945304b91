use Rattle.fj_wake.proofs.waking_core.WakingCoreCoreSleep.rest.Goals as goal

pub invariant_of-self : goal.invariant_of-self
invariant_of-self g c = c.rest.ensures _ _ c.self.invariant
