use Rattle.std.proofs.Common.{length, refl}
use Rattle.fj_wake.proofs.Lasting.{call_to_come}
use Rattle.fj_wake.proofs.waking_core.WakingCoreCoreWorkers.poll.Goals as goal

pub invariant_of-self : goal.invariant_of-self
invariant_of-self g c = c.tell_ended.ensures _ _ c.self.invariant (call_to_come c.self.inside.core c.poll-told.new.self c.machine.result.now c.history-place.result.now (length c.history-place.result.now) c.machine.ensures.is c.history-place.ensures.events c.history-place.ensures.run refl
    c.poll-told.ensures.stays c.poll-told.ensures.others)
