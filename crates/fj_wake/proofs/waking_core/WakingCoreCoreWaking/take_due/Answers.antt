use Rattle.fj_wake.proofs.waking_core.WakingCoreCoreWaking.take_due.Goals as goal

pub invariant_of-self : goal.invariant_of-self
invariant_of-self g c = c.take_due.ensures _ _ c.self.invariant
