use Rattle.fj_wake.proofs.Fewer.{nobody, nobody_left}
use Rattle.fj_wake.proofs.waits.Waits.wake_all.Goals as goal

pub returns : goal.returns
returns c = rw c.wake_crowd.ensures (nobody _ (λ p t is. nobody_left c.args.self.now.workers c.wake_all.new.self p t c.wake_all.ensures is) (λ p k is. nobody_left c.args.self.now.seats c.wake_all-2.new.self p k c.wake_all-2.ensures is) (λ k is. cc))
