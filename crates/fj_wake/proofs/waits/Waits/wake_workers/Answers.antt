use Rattle.std.proofs.Common.{refl}
use Rattle.fj_sleep.specs.Places.{is_asleep}
use Rattle.fj_wake.proofs.Fewer.{fewer_rouse, nothing_new}
use Rattle.fj_wake.proofs.waits.Waits.wake_workers.Goals as goal

pub returns : goal.returns
returns c = nothing_new c.args.self.now _ (fewer_rouse is_asleep c.args.self.now.workers c.wake_all.new.self refl c.wake_all.ensures) (λ p k is. is) refl (λ k is. is)
