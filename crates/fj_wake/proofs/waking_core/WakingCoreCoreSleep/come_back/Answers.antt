use Rattle.fj_wake.proofs.waking_core.WakingCoreCoreSleep.come_back.Goals as goal

pub invariant_of-self : goal.invariant_of-self
invariant_of-self g c = c.come_back.ensures _ _ c.self.invariant
