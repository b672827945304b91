use Rattle.fj_wake.proofs.waking_core.WakingCoreCoreWorkers.wait_for.Goals as goal

pub invariant_of-self : goal.invariant_of-self
invariant_of-self g c = c.wait_for.ensures _ _ c.self.invariant (rw c.self.view_is c.requires)
