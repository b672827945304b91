-- What was taken in, and under which tickets.
use Rattle.std.specs.Prelude.{ℕ, ◌≡◌, ◌<◌, ◌≤◌, ◌==◌, Bool, List, length, map, Option, Some, None, option_map, slice_get, slice_set, All}
use Rattle.std.specs.List.{filter, find, sum_by}
use Rattle.fj_rules.specs.declared.event.Event.{Event}
use Rattle.fj_rules.specs.declared.owner.Owner.TheVariants.{Sub}
use Rattle.fj_rules.specs.Pasts.{Past}
use Rattle.fj_rules.specs.Queues.{pushed}
use Rattle.fj_lane.specs.Ends.{DrainState}
use Rattle.fj_calls.specs.declared.booking.Booking.{Booking}

-- the bookings, in the order in which they were made, and for how many there is room
pub record Booked : Type 0 where
  pub bookings : List Booking
  pub room : ℕ

-- whether a booking is under this ticket
abbrev pub is_under : ℕ → Booking → Bool
is_under ticket booking = booking.ticket == ticket

-- the task that was booked first under a ticket
abbrev pub booked_under : List Booking → ℕ → Option ℕ
booked_under bookings ticket = option_map (λ b. b.serial) (find (is_under ticket) bookings)

-- a task was taken in
abbrev pub HasTask : List Booking → ℕ → Type 0
HasTask bookings t = (place : ℕ) × (booking : Booking) × (slice_get bookings place ≡ Some booking) × (booking.serial ≡ t)

-- for each ticket in the table the index of the first booking under it
pub record IsIndex (bookings : List Booking) (first : List (Option ℕ)) : Type 0 where
  pub there : (ticket place : ℕ) → slice_get first ticket ≡ Some (Some place) → (place < length bookings) × (slice_get bookings place ≡ find (is_under ticket) bookings)
  pub absent : (ticket : ℕ) → slice_get first ticket ≡ Some None → find (is_under ticket) bookings ≡ None

-- the table with an entry for this ticket, if the table reaches it and has none
abbrev pub mark_if : Option (Option ℕ) → List (Option ℕ) → ℕ → ℕ → List (Option ℕ)
mark_if (Some None) first ticket place = slice_set first ticket (Some place)
mark_if _ first ticket place = first

abbrev pub marked : List (Option ℕ) → ℕ → ℕ → List (Option ℕ)
marked first ticket place = mark_if (slice_get first ticket) first ticket place

-- ---- beside the lanes

-- what was taken in from a submitter
abbrev pub booked_by : List Booking → ℕ → List Booking
booked_by bookings s = filter (λ b. b.by == s) bookings

-- the parcels that its drain took and the tasks that it pushed belong together, one by one, in order
pub record IsBooked {B : Type 0} (h : List Event) (bookings : List Booking) (s : ℕ) (lane : DrainState B) : Type 0 where
  pub tickets : map (λ b. b.ticket) (booked_by bookings s) ≡ map (λ p. p.ticket) lane.drained
  pub tasks : map (λ b. b.serial) (booked_by bookings s) ≡ pushed h (Sub s)

-- what was taken in is booked, lane by lane, and nothing else is
pub record AreBooked {B : Type 0} (past : Past) (lanes : List (DrainState B)) (bookings : List Booking) : Type 0 where
  pub lane_each : length lanes ≡ past.pool.limits.submitters
  pub each : (s : ℕ) (lane : DrainState B) → slice_get lanes s ≡ Some lane → IsBooked past.events bookings s lane
  pub all : length bookings ≡ sum_by (λ d. length d.drained) lanes
  pub within : All (λ d. length d.drained ≤ d.capacity) lanes
