use Rattle.std.proofs.Common.{ℕ, ◌≡◌, ◌&&◌, true, List, length, map, sym, ap, ◌∙◌, subst, arith}
use Rattle.std.proofs.lemmas.List.{length-map, length-reverse}
use Rattle.std.specs.Prelude.{IfSome, slice_get}
use Rattle.std.specs.List.{sum_by}
use Rattle.fj_rules.specs.Answers.{is_quiet}
use Rattle.fj_rules.specs.Epochs.{IsPast}
use Rattle.fj_rules.specs.Pasts.{Past}
use Rattle.fj_calls.specs.Closes.{is_number}
use Rattle.fj_calls.specs.Closings.{is_over}
use Rattle.fj_gate.specs.Ends.{EntrantState, drawn_by}
use Rattle.fj_gate.specs.Numbers.{IsNumbersBelow}
use Rattle.fj_lane.specs.Ends.{DrainState}
use Rattle.fj_rules.specs.declared.event.Event.{Event}
use Rattle.fj_calls.specs.declared.booking.Booking.{Booking}
use Rattle.fj_calls.specs.Booked.{IsBooked}
use Rattle.fj_slots.specs.Shelves.{entries}
use Rattle.fj_body.specs.Stores.{HasResults}
use Rattle.fj_calls.specs.Cores.{CoreState}
use Rattle.fj_submitter.specs.Lanes.{lanes_of}
use Rattle.fj_submitter.specs.Seats.{SeatState}
use Rattle.fj_parts.specs.Winding.{has_terminated, submissions}
use Rattle.fj_parts.proofs.Accepted.{booked_accepted}
use Rattle.fj_parts.proofs.Emptied.{all_admitted, emptied}
use Rattle.fj_parts.proofs.Records.{all_settled, numbers_either_way}
use Rattle.fj_parts.proofs.still.Still.wind_up.Goals as goal

pub settle-entrants-requires-clause-lanes : goal.settle-entrants-requires-clause-lanes
settle-entrants-requires-clause-lanes g c =
    ap (λ (ds : List (DrainState g.row.B.Denot)). lanes_of ds) c.into_remains-machine.ensures.drains ∙ c.into_parts-core.ensures.lanes

pub settle-entrants-requires-clause-room : goal.settle-entrants-requires-clause-room
settle-entrants-requires-clause-room g c =
    let apart = c.into_parts-core.ensures in
    (omega (arith, c.args.submitters.ok.0, c.requires.0, apart.entrants.1), omega (arith, c.args.submitters.ok.0, c.requires.0, apart.rests.1))

pub meet-tickets-requires-clause-all : goal.meet-tickets-requires-clause-all
meet-tickets-requires-clause-all g c =
    let drawers : List (SeatState g.row.B.Denot) = c.args.submitters.items in
    c.settle-entrants.result.0.ok.0 ∙ ap (λ (es : List EntrantState). length es) c.settle-entrants.ensures.entrants ∙ length-reverse (map (λ (s : SeatState g.row.B.Denot). s.entrant) drawers) ∙ length-map drawers (λ (s : SeatState g.row.B.Denot). s.entrant)
    ∙ c.requires.0 ∙ sym c.into_end.ensures.submitters

pub meet-tickets-requires-clause-same : goal.meet-tickets-requires-clause-same
meet-tickets-requires-clause-same g c = λ k e low. c.settle-entrants.ensures.gates k e low ∙ sym c.into_end.ensures.gate

pub returns-clause-machine : goal.returns-clause-machine
returns-clause-machine g c = c.into_remains-machine.ensures.past ∙ ap (λ core. core.store.past) (c.into_parts-core.ensures.core ∙ c.self.view_is)

pub returns-clause-results : goal.returns-clause-results
returns-clause-results g c = c.into_remains-machine.ensures.results ∙ ap (λ core. entries core.store.results) (c.into_parts-core.ensures.core ∙ c.self.view_is)

pub returns-clause-complete : goal.returns-clause-complete
returns-clause-complete g c =
    let left = c.into_remains-machine.ensures in
    subst (λ (core : CoreState g.row.B.Denot g.row.B-Key.Denot g.row.B-Out.Denot). HasResults c.into_remains-machine.result.machine (entries c.into_remains-machine.result.results) core.store.taken)
    (c.into_parts-core.ensures.core ∙ c.self.view_is) (rw (left.past, left.results) left.complete)

pub returns-clause-bookings : goal.returns-clause-bookings
returns-clause-bookings g c = c.into_remains-machine.ensures.bookings ∙ ap (λ core. core.bookings) (c.into_parts-core.ensures.core ∙ c.self.view_is)

pub returns-clause-parts : goal.returns-clause-parts
returns-clause-parts g c =
    let left = c.into_remains-machine.ensures in
    let core = c.into_parts-core.ensures.core ∙ c.self.view_is in
    (left.handed ∙ ap (λ core. core.handed) core, left.parts ∙ ap (λ core. core.parts) core)

pub returns-clause-run : goal.returns-clause-run
returns-clause-run g c = subst IsPast (sym c.into_remains-machine.ensures.past) c.into_remains-machine.ensures.run

pub returns-clause-pool : goal.returns-clause-pool
returns-clause-pool g c = ap (λ (past : Past). past.pool) c.into_remains-machine.ensures.past ∙ c.into_parts-core.ensures.pool

pub returns-clause-history : goal.returns-clause-history
returns-clause-history g c =
    let left = c.into_remains-machine.ensures in
    rw (left.handed, left.parts, left.past) left.history

pub returns-clause-lanes : goal.returns-clause-lanes
returns-clause-lanes g c =
    let ended = c.into_remains-machine.result in
    let left = c.into_remains-machine.ensures in
    let events : ended.machine.events ≡ (g.C.CoreView.state c.into_parts-core.result.0).store.past.events = ap (λ past. past.events) left.past in
    all_settled ended.machine.events ended.bookings.bookings ended.drains.items c.args.submitters.items c.settle-entrants.result.1.items c.settle-entrants.ensures.rests
    (λ k d at.
    subst (λ (x : List Event × List Booking). IsBooked x.0 x.1 k d) (λ i. (sym events i, sym left.bookings i))
    (left.booked.each k d (ap (λ (ds : List (DrainState g.row.B.Denot)). slice_get ds k) (sym left.drains) ∙ at)))
    c.requires.1

pub returns-clause-admitted : goal.returns-clause-admitted
returns-clause-admitted g c =
    let entrants : List EntrantState = map (λ (s : SeatState g.row.B.Denot). s.entrant) c.args.submitters.items in
    numbers_either_way c.meet-tickets.result.drawn entrants (subst (λ (es : List EntrantState). IsNumbersBelow c.meet-tickets.result.drawn (drawn_by es)) c.settle-entrants.ensures.entrants c.meet-tickets.ensures.numbers)

pub returns-clause-closed : goal.returns-clause-closed
returns-clause-closed g c = c.meet-tickets.ensures.closed ∙ ap (λ closer. closer.closed) c.into_end.ensures.end

pub returns-clause-at_close : goal.returns-clause-at_close
returns-clause-at_close g c = c.meet-tickets.ensures.at_close

pub returns-clause-taken_in : goal.returns-clause-taken_in
returns-clause-taken_in g c =
    let left = c.into_remains-machine.ensures in
    ap (λ (bs : List Booking). length bs) left.bookings ∙ booked_accepted (g.C.CoreView.state c.into_parts-core.result.0).store.past (g.C.CoreView.state c.into_parts-core.result.0).lanes (g.C.CoreView.state c.into_parts-core.result.0).bookings left.booked ∙ ap (λ (past : Past). submissions past) (sym left.past)

pub returns-clause-terminated : goal.returns-clause-terminated
returns-clause-terminated g c =
    let machine = c.into_remains-machine.result.machine in
    let past : (g.C.CoreView.state c.into_parts-core.result.0).store.past ≡ machine = sym c.into_remains-machine.ensures.past in
    let closed : c.meet-tickets.result.closed ≡ c.args.closer.closed = returns-clause-closed g c in
    let number : is_number c.meet-tickets.result.closed c.len.result ≡ is_number c.args.closer.closed (submissions machine) =
    (λ i. is_number (closed i) (c.len.ensures i)) ∙ ap (λ (n : ℕ). is_number c.args.closer.closed n) (returns-clause-taken_in g c) in
    let shut : c.is_shut-shut.result ≡ is_over machine.events = c.is_shut-shut.ensures ∙ ap (λ (p : Past). is_over p.events) (c.machine.ensures.is ∙ past) in
    let quiet : c.is_quiescent-quiet.result ≡ is_quiet machine.pool.limits machine.events = c.is_quiescent-quiet.ensures ∙ ap (λ (p : Past). is_quiet p.pool.limits p.events) (c.machine-2.ensures.is ∙ past) in
    c.has_ended-terminated.ensures ∙ (λ i. number i && shut i && quiet i)

pub returns-clause-emptied : goal.returns-clause-emptied
returns-clause-emptied g c terminated =
    let left = c.into_remains-machine.ensures in
    let machine = c.into_remains-machine.result.machine in
    let bookings = c.into_remains-machine.result.bookings.bookings in
    let reached : has_terminated c.args.closer.closed machine ≡ true = sym (returns-clause-terminated g c) ∙ terminated in
    let closed : c.meet-tickets.result.closed ≡ c.args.closer.closed = returns-clause-closed g c in
    let admitted : c.meet-tickets.result.drawn ≡ length bookings =
    all_admitted c.args.closer.closed machine c.meet-tickets.result.drawn reached (subst (λ o. IfSome o (λ m. c.meet-tickets.result.drawn ≡ m)) closed c.meet-tickets.ensures.at_close) ∙ sym (returns-clause-taken_in g c) in
    emptied c.into_remains-machine.result.drains.items c.args.submitters.items c.settle-entrants.result.1.items (length bookings) c.settle-entrants.ensures.rests c.settle-entrants.ensures.seats
    (ap (λ (bs : List Booking). length bs) left.bookings ∙ left.booked.all ∙ ap (λ (ds : List (DrainState g.row.B.Denot)). sum_by (λ d. length d.drained) ds) (sym left.drains))
    ((returns-clause-admitted g c).0 ∙ admitted)
