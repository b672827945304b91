use Rattle.std.proofs.Common.{refl}
use Rattle.fj_sleep.specs.Places.{is_waiting}
use Rattle.fj_sleep.proofs.Nobody.{rouses_nobody}
use Rattle.fj_sleep.proofs.sleepers.Sleepers.wake_waiting.Goals as goal

pub returns-else-self : goal.returns-else-self
returns-else-self g c =
    let places = c.self.inside.places.items in
    rw (← c.self.view_is) (rw (rouses_nobody is_waiting places (c.self.invariant.no_waiting c.if-self.false)) refl)
