use Rattle.std.proofs.Common.{◌≡◌, ◌<◌, ◌+◌, ◌∷◌, [], ◌++◌, List, length, Some, refl, ap, subst, ◌∙◌, arith, inr}
use Rattle.std.specs.Prelude.{slice_get, slice_set}
use Rattle.std.proofs.lemmas.Option.{slice_get_read}
use Rattle.fj_lane.specs.Ends.{DrainState}
use Rattle.fj_body.specs.Stores.{StoreState}
use Rattle.fj_calls.specs.declared.booking.Booking.{Booking}
use Rattle.fj_rules.specs.Tasks.{submitted_kind}
use Rattle.fj_calls.specs.Booked.{Booked}
use Rattle.fj_calls.specs.Cores.{CoreState}
use Rattle.fj_calls.specs.Intakes.{Submits, kind_rooted, with_drained}
use Rattle.fj_calls.specs.Closes.{Dues}
use Rattle.fj_calls.specs.Closings.{is_due}
use Rattle.fj_body.proofs.Frames.{same_stays}
use Rattle.fj_core.proofs.Frames.{core_stays}
use Rattle.fj_core.proofs.Lanes.{same_capacity, booking_room}
use Rattle.fj_core.proofs.Parts.{parts_stay, parts_taken}
use Rattle.fj_core.proofs.TakingIn.{readies_stay, missed_core, intake_core, one_more, taken_pool}
use Rattle.fj_core.proofs.pool_core.Core.intake.Goals as goal

pub invariant_of-self : goal.invariant_of-self
invariant_of-self g c =
    let stays = readies_stay _ _ c.args.s c.in-Some.answer c.in-Some.ensures in
    record {
      core = core_stays _ _ _ _ _ stays c.self.invariant.core;
      room = c.self.invariant.room;
      parts = parts_stay _ _ _ stays c.self.invariant.parts;
    }

pub invariant_of-self-in-None : goal.invariant_of-self-in-None
invariant_of-self-in-None g c =
    let self = c.self.inside in
    let lanes : List (DrainState g.row.B.Denot) = self.drains.items in
    let d : DrainState g.row.B.Denot = c.index_mut.result.now in
    let within : c.s.inside.0 < length lanes = omega (arith, c.requires, ap (λ (x : CoreState g.row.B.Denot g.row.B-Key.Denot g.row.B-Out.Denot). x.store.past.pool.limits.submitters) c.self.view_is, c.self.invariant.core.booked.lane_each, c.s.view_is) in
    let at : slice_get lanes c.s.inside.0 ≡ Some d = slice_get_read lanes (length lanes) c.s.inside.0 d refl within c.index_mut.ensures.value in
    let stays = same_stays self.store c.ready.new.store c.in_default.ensures.3 in
    let was = core_stays self.store c.ready.new.store lanes _ _ stays c.self.invariant.core in
    let capacity = ap (λ (x : DrainState g.row.B.Denot). x.capacity) c.in-None.ensures.taken in
    record {
      core = missed_core _ lanes _ _ c.s.inside.0 d c.take.new.self at (ap (λ (x : DrainState g.row.B.Denot). x.drained) c.in-None.ensures.taken) capacity was;
      room = same_capacity lanes c.s.inside.0 _ d c.take.new.self at capacity c.self.invariant.room;
      parts = parts_stay _ _ _ stays c.self.invariant.parts;
    }

pub push-requires : goal.push-requires
push-requires g c =
    let self = c.self.inside in
    let lanes : List (DrainState g.row.B.Denot) = self.drains.items in
    let d : DrainState g.row.B.Denot = c.index_mut.result.now in
    let within : c.s.inside.0 < length lanes = omega (arith, c.requires, ap (λ (x : CoreState g.row.B.Denot g.row.B-Key.Denot g.row.B-Out.Denot). x.store.past.pool.limits.submitters) c.self.view_is, c.self.invariant.core.booked.lane_each, c.s.view_is) in
    let at : slice_get lanes c.s.inside.0 ≡ Some d = slice_get_read lanes (length lanes) c.s.inside.0 d refl within c.index_mut.ensures.value in
    booking_room self.store.past lanes _ c.s.inside.0 _ d c.take.new.self c.in-Some-take.parcel at (ap (λ (x : DrainState g.row.B.Denot). x.drained) c.in-Some-take.ensures.taken)
    (ap (λ (x : DrainState g.row.B.Denot). x.capacity) c.in-Some-take.ensures.taken) c.take.ensures.within c.self.invariant.room c.self.invariant.core.booked

pub invariant_of-self-in-Some-take : goal.invariant_of-self-in-Some-take
invariant_of-self-in-Some-take g c =
    let self = c.self.inside in
    let lanes : List (DrainState g.row.B.Denot) = self.drains.items in
    let d : DrainState g.row.B.Denot = c.index_mut.result.now in
    let within : c.s.inside.0 < length lanes = omega (arith, c.requires, ap (λ (x : CoreState g.row.B.Denot g.row.B-Key.Denot g.row.B-Out.Denot). x.store.past.pool.limits.submitters) c.self.view_is, c.self.invariant.core.booked.lane_each, c.s.view_is) in
    let at : slice_get lanes c.s.inside.0 ≡ Some d = slice_get_read lanes (length lanes) c.s.inside.0 d refl within c.index_mut.ensures.value in
    let p = c.in-Some-take.parcel in
    record {
      core = intake_core self.store c.ready.new.store c.hand_in-serial.new.store c.make_due.new.store lanes self.bookings c.push.new.self self.closing c.args.s c.s.inside.0 c.hand_in-serial.result c.len.result
          (submitted_kind (kind_rooted (g.B.Body.rooted_as p.body))) d c.take.new.self p c.s.view_is c.in_default.ensures.3 c.hand_in-serial.ensures.event at c.in-Some-take.ensures.taken c.take.ensures.within c.push.ensures c.len.ensures
          c.make_due.ensures c.self.invariant.core;
      room = rw c.push.ensures (same_capacity lanes c.s.inside.0 _ d c.take.new.self at (ap (λ (x : DrainState g.row.B.Denot). x.capacity) c.in-Some-take.ensures.taken) c.self.invariant.room);
      parts = parts_taken (self.archive.handed ++ self.archive.kept) _ _ self.store c.ready.new.store c.hand_in-serial.new.store c.make_due.new.store _ c.in_default.ensures.3 c.hand_in-serial.ensures.event c.make_due.ensures c.self.invariant.parts;
    }

pub returns-in-None-clause-intakes : goal.returns-in-None-clause-intakes
returns-in-None-clause-intakes g c =
    let self = c.self.inside in
    let lanes : List (DrainState g.row.B.Denot) = self.drains.items in
    let d : DrainState g.row.B.Denot = c.index_mut.result.now in
    let within : c.s.inside.0 < length lanes = omega (arith, c.requires, ap (λ (x : CoreState g.row.B.Denot g.row.B-Key.Denot g.row.B-Out.Denot). x.store.past.pool.limits.submitters) c.self.view_is, c.self.invariant.core.booked.lane_each, c.s.view_is) in
    let at : slice_get lanes c.s.inside.0 ≡ Some d = slice_get_read lanes (length lanes) c.s.inside.0 d refl within c.index_mut.ensures.value in
    let with_store : StoreState g.row.B.Denot g.row.B-Key.Denot g.row.B-Out.Denot → CoreState g.row.B.Denot g.row.B-Key.Denot g.row.B-Out.Denot =
    λ st. record { store = st; lanes = slice_set lanes c.s.inside.0 c.take.new.self; bookings = self.bookings.bookings; closing = self.closing; handed = self.archive.handed; parts = self.archive.kept; missed_seals = self.missed_seals.number } in
    let with_lanes : List (DrainState g.row.B.Denot) → CoreState g.row.B.Denot g.row.B-Key.Denot g.row.B-Out.Denot =
    λ ls. record { store = self.store; lanes = ls; bookings = self.bookings.bookings; closing = self.closing; handed = self.archive.handed; parts = self.archive.kept; missed_seals = self.missed_seals.number } in
    rw (← c.self.view_is) (inr (record {
      free = c.in_default.ensures.0;
      goes_on = c.in_default.ensures.1;
      unrefused = c.in_default.ensures.2;
      lane = d;
      at = subst (λ j. slice_get lanes j ≡ Some d) c.s.view_is at;
      missed = ap with_store c.in_default.ensures.3
          ∙ ap with_lanes (ap (λ j. slice_set lanes j c.take.new.self) c.s.view_is ∙ ap (λ (e : DrainState g.row.B.Denot). slice_set lanes c.args.s e) c.in-None.ensures.taken);
    }))

pub returns-in-Some-take-clause-intakes : goal.returns-in-Some-take-clause-intakes
returns-in-Some-take-clause-intakes g c =
    let self = c.self.inside in
    let lanes : List (DrainState g.row.B.Denot) = self.drains.items in
    let d : DrainState g.row.B.Denot = c.index_mut.result.now in
    let within : c.s.inside.0 < length lanes = omega (arith, c.requires, ap (λ (x : CoreState g.row.B.Denot g.row.B-Key.Denot g.row.B-Out.Denot). x.store.past.pool.limits.submitters) c.self.view_is, c.self.invariant.core.booked.lane_each, c.s.view_is) in
    let at : slice_get lanes c.s.inside.0 ≡ Some d = slice_get_read lanes (length lanes) c.s.inside.0 d refl within c.index_mut.ensures.value in
    let p = c.in-Some-take.parcel in
    let b : Booking = record { ticket = p.ticket; serial = c.hand_in-serial.result; by = c.args.s } in
    let same : c.ready.new.store ≡ self.store = c.in_default.ensures.3 in
    let more : c.push.new.self.bookings ≡ self.bookings.bookings ++ b ∷ [] = ap (λ (x : Booked). x.bookings) c.push.ensures in
    let long : c.len.result ≡ length self.bookings.bookings + 1 = one_more self.bookings c.push.new.self b c.len.result c.push.ensures c.len.ensures in
    let new_lanes : slice_set lanes c.s.inside.0 c.take.new.self ≡ slice_set lanes c.args.s (with_drained d p) =
    ap (λ j. slice_set lanes j c.take.new.self) c.s.view_is ∙ ap (λ (e : DrainState g.row.B.Denot). slice_set lanes c.args.s e) c.in-Some-take.ensures.taken in
    let with_lanes : List (DrainState g.row.B.Denot) → CoreState g.row.B.Denot g.row.B-Key.Denot g.row.B-Out.Denot =
    λ ls. record { store = c.make_due.new.store; lanes = ls; bookings = c.push.new.self.bookings; closing = self.closing; handed = self.archive.handed; parts = self.archive.kept; missed_seals = self.missed_seals.number } in
    let with_bookings : List Booking → CoreState g.row.B.Denot g.row.B-Key.Denot g.row.B-Out.Denot =
    λ bs. record { store = c.make_due.new.store; lanes = slice_set lanes c.args.s (with_drained d p); bookings = bs; closing = self.closing; handed = self.archive.handed; parts = self.archive.kept; missed_seals = self.missed_seals.number } in
    rw (← c.self.view_is) (record {
      free = c.in_default.ensures.0;
      goes_on = c.in_default.ensures.1;
      parcel = p;
      lane = d;
      at = subst (λ j. slice_get lanes j ≡ Some d) c.s.view_is at;
      mid = c.hand_in-serial.new.store;
      submits = subst (λ (st : StoreState g.row.B.Denot g.row.B-Key.Denot g.row.B-Out.Denot). Submits g.B.Body.rooted_as st c.args.s p.body c.hand_in-serial.result c.hand_in-serial.new.store) same c.hand_in-serial.ensures.submits;
      due = subst (λ n. Dues (is_due self.closing.number n) self.closing.stopping c.hand_in-serial.new.store c.make_due.new.store) long c.make_due.ensures;
      others = ap with_lanes new_lanes ∙ ap with_bookings more;
    })

pub returns-in-Some-clause-pool : goal.returns-in-Some-clause-pool
returns-in-Some-clause-pool g c = subst (λ s. c.ready.new.store.past.pool ≡ s.store.past.pool) c.self.view_is (readies_stay _ _ c.args.s c.in-Some.answer c.in-Some.ensures).past.pool

pub returns-in-None-clause-pool : goal.returns-in-None-clause-pool
returns-in-None-clause-pool g c = subst (λ s. c.ready.new.store.past.pool ≡ s.store.past.pool) c.self.view_is (ap (λ (s : StoreState g.row.B.Denot g.row.B-Key.Denot g.row.B-Out.Denot). s.past.pool) c.in_default.ensures.3)

pub returns-in-Some-take-clause-pool : goal.returns-in-Some-take-clause-pool
returns-in-Some-take-clause-pool g c =
    subst (λ s. c.make_due.new.store.past.pool ≡ s.store.past.pool) c.self.view_is
    (taken_pool _ _ c.self.inside.store c.ready.new.store c.hand_in-serial.new.store c.make_due.new.store _ c.in_default.ensures.3 c.hand_in-serial.ensures.event c.make_due.ensures)
