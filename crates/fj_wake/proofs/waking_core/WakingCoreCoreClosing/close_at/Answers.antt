use Rattle.fj_wake.proofs.waking_core.WakingCoreCoreClosing.close_at.Goals as goal

pub invariant_of-self : goal.invariant_of-self
invariant_of-self g c = c.wake_all.ensures _ _
