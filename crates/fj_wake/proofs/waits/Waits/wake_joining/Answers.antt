use Rattle.std.proofs.Common.{refl}
use Rattle.fj_sleep.specs.Places.{is_waiting}
use Rattle.fj_wake.proofs.Fewer.{fewer_rouse, nothing_new}
use Rattle.fj_wake.proofs.waits.Waits.wake_joining.Goals as goal

pub returns : goal.returns
returns c = nothing_new c.args.self.now _ (fewer_rouse is_waiting c.args.self.now.workers c.wake_waiting.new.self refl c.wake_waiting.ensures) (λ p k is. is) refl (λ k is. is)
