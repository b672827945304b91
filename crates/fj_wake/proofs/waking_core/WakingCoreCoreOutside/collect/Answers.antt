use Rattle.std.proofs.Common.{length, refl}
use Rattle.fj_wake.proofs.Lasting.{call_to_come, collects_change, awaited_where}
use Rattle.fj_wake.proofs.waking_core.WakingCoreCoreOutside.collect.Goals as goal

pub invariant_of-self : goal.invariant_of-self
invariant_of-self g c = c.wake_joining_if.ensures _ _ (c.tell_ended.ensures _ _ c.self.invariant (call_to_come c.self.inside.core c.collect-answer.new.self c.machine.result.now c.history-place.result.now (length c.history-place.result.now) c.machine.ensures.is c.history-place.ensures.events c.history-place.ensures.run refl
    c.collect-answer.ensures.stays (collects_change c.self.inside.core c.collect-answer.new.self c.args.ticket c.collect-answer.result c.collect-answer.ensures.collects)))

pub returns-clause-awaited : goal.returns-clause-awaited
returns-clause-awaited g c = awaited_where c.self.inside.core c.collect-answer.new.self c.args.ticket c.collect-answer.result c.collect-answer.ensures.collects
