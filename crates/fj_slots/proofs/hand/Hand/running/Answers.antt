use Rattle.std.proofs.Common.{◌-◌, length, refl, ◌∙◌}
use Rattle.fj_slots.proofs.Beside.{length_zip, number_at}
use Rattle.fj_slots.proofs.hand.Hand.running.Goals as goal

pub returns : goal.returns
returns g c =
    let q = c.self.inside in
    rw (← c.self.view_is, length_zip q.serials.items q.bodies.items c.self.invariant.one_body_each, number_at q.serials.items q.bodies.items (length q.serials.items - 1) c.self.invariant.one_body_each)
    (c.copied.ensures ∙ c.last.ensures.value ∙ rw c.deref.ensures.value refl)
