use Rattle.std.proofs.Common.{rules, ◌∙◌, refl}
use Rattle.std.specs.Prelude.{slice_get}
use Rattle.fj_calls.proofs.Index.{more_index}
use Rattle.fj_calls.proofs.bookings.Bookings.push.Goals as goal

pub invariant_of-self : goal.invariant_of-self
invariant_of-self c = record {
  has_room = search rules;
  within = search rules;
  index = rw c.push_reserved.ensures.items (rw c.mark.ensures (rw (c.len.ensures ∙ c.self.inside.list.ok.0) (more_index _ _ c.args.booking (slice_get c.self.inside.first.items c.args.booking.ticket) refl c.self.invariant.index)));
}
