use Rattle.std.proofs.Common.{length, refl}
use Rattle.fj_wake.proofs.Lasting.{call_to_come, cancels_change}
use Rattle.fj_wake.proofs.waking_core.WakingCoreCoreOutside.cancel.Goals as goal

pub invariant_of-self : goal.invariant_of-self
invariant_of-self g c = c.tell_ended.ensures _ _ c.self.invariant (call_to_come c.self.inside.core c.cancel-answer.new.self c.machine.result.now c.history-place.result.now (length c.history-place.result.now) c.machine.ensures.is c.history-place.ensures.events c.history-place.ensures.run refl
    c.cancel-answer.ensures.stays (cancels_change c.self.inside.core c.cancel-answer.new.self c.args.ticket c.cancel-answer.result c.cancel-answer.ensures.cancels))
