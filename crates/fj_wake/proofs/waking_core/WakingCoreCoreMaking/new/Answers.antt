use Rattle.fj_wake.proofs.waking_core.WakingCoreCoreMaking.new.Goals as goal

pub invariant_of-result : goal.invariant_of-result
invariant_of-result g c = c.in_ok-waits.ensures _ _
