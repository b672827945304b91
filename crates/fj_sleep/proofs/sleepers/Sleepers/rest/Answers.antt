use Rattle.std.proofs.Common.{refl}
use Rattle.fj_sleep.proofs.Nobody.{noted_set}
use Rattle.fj_sleep.proofs.sleepers.Sleepers.rest.Goals as goal
use Rattle.fj_sleep.proofs.sleepers.Sleepers.rest.Goals.{in-Some, in-None}

pub invariant_of-self : goal.invariant_of-self
invariant_of-self g c = elim c.match-self.branch [
  | in-Some w ↦ rw w.self-is (noted_set _ _ _ _ _ _ _ _ _ _ _ c.self.invariant (λ none. absurd cc) (λ none. (none, refl)) (λ none. absurd cc) (λ none. (none, refl)))
  | in-None w ↦ rw w.self-is (noted_set _ _ _ _ _ _ _ _ _ _ _ c.self.invariant (λ none. absurd cc) (λ none. (none, refl)) (λ none. absurd cc) (λ none. (none, refl)))
]
