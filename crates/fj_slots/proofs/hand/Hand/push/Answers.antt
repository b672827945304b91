use Rattle.std.proofs.Common.{◌+◌, ◌<◌, ◌∷◌, [], None, length, length-append, arith, refl, ap}
use Rattle.fj_rules.specs.declared.limits.TheConstants.{MAX_TASKS}
use Rattle.fj_slots.proofs.Beside.{length_zip, zip_append}
use Rattle.fj_slots.proofs.hand.Hand.push.Goals as goal

pub push_reserved-requires : goal.push_reserved-requires
push_reserved-requires g c =
    let q = c.self.inside in
    omega (arith, length_zip q.serials.items q.bodies.items c.self.invariant.one_body_each, ap (λ h. length h.stack) c.self.view_is, c.requires, c.self.invariant.serials_fit, q.serials.ok.0)

pub push_reserved-requires-2 : goal.push_reserved-requires-2
push_reserved-requires-2 g c =
    let q = c.self.inside in
    omega (arith, length_zip q.serials.items q.bodies.items c.self.invariant.one_body_each, ap (λ h. length h.stack) c.self.view_is, c.requires, c.self.invariant.bodies_fit, c.self.invariant.one_body_each, q.bodies.ok.0)

pub push_reserved-requires-3 : goal.push_reserved-requires-3
push_reserved-requires-3 g c =
    let q = c.self.inside in
    omega (arith, length_zip q.serials.items q.bodies.items c.self.invariant.one_body_each, ap (λ h. length h.stack) c.self.view_is, c.requires, c.self.invariant.joined_fit, c.self.invariant.one_note_each, q.joined.ok.0)

pub invariant_of-self : goal.invariant_of-self
invariant_of-self g c =
    let q = c.self.inside in
    let long : length q.serials.items < MAX_TASKS = omega (arith, length_zip q.serials.items q.bodies.items c.self.invariant.one_body_each, ap (λ h. length h.stack) c.self.view_is, c.requires) in
    rw (
      c.push_reserved.ensures.capacity,
      c.push_reserved-2.ensures.capacity,
      c.push_reserved-3.ensures.capacity,
      c.push_reserved.ensures.items,
      c.push_reserved-2.ensures.items,
      c.push_reserved-3.ensures.items,
      length-append q.serials.items (c.args.t ∷ []),
      length-append q.bodies.items (c.args.body ∷ []),
      length-append q.joined.items (None ∷ []),
    )
    (record {
      serials_fit = c.self.invariant.serials_fit;
      bodies_fit = c.self.invariant.bodies_fit;
      joined_fit = c.self.invariant.joined_fit;
      few = omega (arith, long);
      one_body_each = ap (λ n. n + 1) c.self.invariant.one_body_each;
      one_note_each = ap (λ n. n + 1) c.self.invariant.one_note_each;
    })

pub returns : goal.returns
returns g c =
    let q = c.self.inside in
    rw (← c.self.view_is, c.push_reserved.ensures.items, c.push_reserved-2.ensures.items, c.push_reserved-3.ensures.items, zip_append q.serials.items q.bodies.items c.args.t c.args.body c.self.invariant.one_body_each) refl
