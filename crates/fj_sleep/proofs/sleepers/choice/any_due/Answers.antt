use Rattle.std.proofs.Common.{rules, ◌≡◌, true, false}
use Rattle.std.proofs.lemmas.Iterator.{IsFirst-from_position, YieldsList-from_slice}
use Rattle.fj_sleep.specs.Places.{is_due}
use Rattle.fj_sleep.proofs.Nobody.{at_first}
use Rattle.fj_sleep.proofs.sleepers.choice.any_due.Goals as goal

pub returns : goal.returns
returns g c =
    at_first is_due c.args.places.now c.position.result
    (IsFirst-from_position _ _ c.position.result (λ s. is_due s ≡ true) (λ s. is_due s ≡ false) c.position.ensures.ran (YieldsList-from_slice _ c.iter.ensures.rest)
    (λ x q k. search rules) (λ x q k. search rules))
