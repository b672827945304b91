use Rattle.std.proofs.Common.{refl}
use Rattle.fj_sleep.proofs.Nobody.{noted_set}
use Rattle.fj_sleep.proofs.sleepers.Sleepers.come_back.Goals as goal

pub invariant_of-self : goal.invariant_of-self
invariant_of-self g c = noted_set _ _ _ _ _ _ _ _ _ _ _ c.self.invariant (λ none. (none, refl)) (λ none. (none, refl)) (λ none. (none, refl)) (λ none. (none, refl))
