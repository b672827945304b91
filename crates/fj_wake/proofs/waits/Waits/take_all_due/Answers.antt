use Rattle.std.proofs.Common.{refl}
use Rattle.fj_wake.proofs.Fewer.{fewer_take, nothing_new}
use Rattle.fj_wake.proofs.waits.Waits.take_all_due.Goals as goal

pub returns : goal.returns
returns c =
    nothing_new c.args.self.now _ (fewer_take c.take_due-due.result c.args.self.now.workers c.take_due-due.new.self c.take_due-due.ensures.same c.take_due-due.ensures.woken)
    (fewer_take c.take_due-due-2.result c.args.self.now.seats c.take_due-due-2.new.self c.take_due-due-2.ensures.same c.take_due-due-2.ensures.woken) refl (λ k is. is)
