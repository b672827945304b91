use Rattle.fj_wake.proofs.Fewer.{nobody, nobody_new}
use Rattle.fj_wake.proofs.waits.Waits.new.Goals as goal

pub returns : goal.returns
returns c = nobody _ (λ p t is. nobody_new c.in_ok-new.field-0 c.args.workers p t c.in_ok-new.ensures is) (λ p k is. nobody_new c.in_ok-new-2.field-0 32 p k c.in_ok-new-2.ensures is) (λ k is. cc)
