use Rattle.std.proofs.Common.{refl}
use Rattle.fj_sleep.specs.Places.{is_asleep}
use Rattle.fj_sleep.proofs.Nobody.{nobody_asleep, rouses_nobody}
use Rattle.fj_sleep.proofs.sleepers.Sleepers.wake_all.Goals as goal

pub returns-else-self-2 : goal.returns-else-self-2
returns-else-self-2 g c =
    let places = c.self.inside.places.items in
    rw (← c.self.view_is) (rw (rouses_nobody is_asleep places (nobody_asleep places (c.self.invariant.no_resting c.if-self-2.false) (c.self.invariant.no_waiting c.if-self.false))) refl)
