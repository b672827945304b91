-- What a call of the store leaves of the core.
use Rattle.std.proofs.Common.{List, length}
use Rattle.fj_lane.specs.Ends.{DrainState}
use Rattle.fj_body.specs.Stores.{StoreState, StaysInside}
use Rattle.fj_calls.specs.declared.booking.Booking.{Booking}
use Rattle.fj_calls.specs.declared.cutoff.Cutoff.{Cutoff}
use Rattle.fj_calls.specs.Cores.{IsCore}
use Rattle.fj_core.proofs.Lanes.{same_booked}
use Rattle.fj_core.proofs.Reached.{closing_stays}

module _ {B K O : Type 0} where
  pub core_stays : (old new : StoreState B K O) (lanes : List (DrainState B)) (bookings : List Booking) (closing : Cutoff) → StaysInside old new → IsCore old lanes bookings closing → IsCore new lanes bookings closing
  core_stays old new lanes bookings closing stays is = record {
    booked = same_booked old.past new.past lanes bookings (record { pool = stays.past.pool; pushes = stays.past.pushes }) is.booked;
    closes = closing_stays old.past.events new.past.events (length bookings) closing old.stuck new.stuck stays.past.closed stays.past.stopped stays.stuck is.closes;
  }
