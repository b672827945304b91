-- What is left of a pool that is wound up.
use Rattle.std.specs.Prelude.{ℕ, ◌≡◌, ◌&&◌, All, Bool, List, [], ◌∷◌, ◌++◌, Option, Some, length, map, slice_get}
use Rattle.std.specs.List.{range_with_len, sum_by}
use Rattle.fj_rules.specs.declared.event.Event.{Event}
use Rattle.fj_rules.specs.declared.owner.Owner.TheVariants.{Sub}
use Rattle.fj_rules.specs.Answers.{is_quiet}
use Rattle.fj_rules.specs.Pasts.{Past}
use Rattle.fj_rules.specs.Queues.{pushed}
use Rattle.fj_gate.specs.Ends.{drawn_by}
use Rattle.fj_lane.specs.declared.parcel.Parcel.{Parcel}
use Rattle.fj_lane.specs.Ends.{DrainState}
use Rattle.fj_calls.specs.declared.booking.Booking.{Booking}
use Rattle.fj_rules.specs.Statuses.{status}
use Rattle.fj_slots.specs.Shelves.{Entries, without_entry}
use Rattle.fj_body.specs.declared.outcomes.Outcome.{Outcome}
use Rattle.fj_body.specs.Results.{outcome_of}
use Rattle.fj_calls.specs.Booked.{booked_by, booked_under}
use Rattle.fj_calls.specs.Closings.{is_over}
use Rattle.fj_calls.specs.Closes.{is_number}
use Rattle.fj_submitter.specs.Seats.{SeatState, tickets}

module _ {B : Type 0} where
  -- the tickets that these submitters drew, joined
  abbrev pub tickets_of : List (SeatState B) → List ℕ
  tickets_of seats = drawn_by (map (λ s. s.entrant) seats)

  -- what was taken in from a submitter, and then what its lane still holds, is what it pushed, bodies and all; what was taken in is booked
  -- under its tickets, in order, and the tasks of that are those that were pushed into its queue
  pub record IsSettled (h : List Event) (bookings : List Booking) (seat : SeatState B) (rest : List (Parcel B)) : Type 0 where
    pub taken_in : List (Parcel B)
    pub all : taken_in ++ rest ≡ seat.feed.fed
    pub booked : map (λ b. b.ticket) (booked_by bookings seat.number) ≡ tickets taken_in
    pub tasks : map (λ b. b.serial) (booked_by bookings seat.number) ≡ pushed h (Sub seat.number)

  -- the same of each submitter and its lane
  abbrev pub AreSettled : List Event → List Booking → List (SeatState B) → List (List (Parcel B)) → Type 0
  AreSettled h bookings [] [] = Unit {0}
  AreSettled h bookings (seat ∷ seats) (rest ∷ rests) = IsSettled h bookings seat rest × AreSettled h bookings seats rests
  AreSettled h bookings [] (rest ∷ rests) = ⊥
  AreSettled h bookings (seat ∷ seats) [] = ⊥

  -- the lanes hold nothing any more
  abbrev pub AreEmpty : List (List (Parcel B)) → Type 0
  AreEmpty rests = All (λ r. r ≡ []) rests

-- the outcome of the task that was taken in first under a ticket, with the result that was kept for it
abbrev pub IsLeft : {B K O : Type 0} → List Event → List Booking → Entries (K × O) → ℕ → Outcome B K O → Type 0
IsLeft h bookings results ticket outcome = (t : ℕ) × (booked_under bookings ticket ≡ Some t) × (outcome ≡ outcome_of (status h t) (results t))

-- of the results, that of the task that was taken in first under a ticket is taken out
abbrev pub IsTaken : {R : Type 0} → List Booking → ℕ → Entries R → Entries R → Type 0
IsTaken bookings ticket old new = (t : ℕ) × (booked_under bookings ticket ≡ Some t) × (new ≡ without_entry old t)

-- how many submissions the machine accepted, from all submitters
abbrev pub submissions : Past → ℕ
submissions past = sum_by (λ s. length (pushed past.events (Sub s))) (range_with_len 0 past.pool.limits.submitters)

-- whether it had terminated: exactly the closing number of submissions was accepted, it was shut, and all is quiet
abbrev pub has_terminated : Option ℕ → Past → Bool
has_terminated closed past = is_number closed (submissions past) && is_over past.events && is_quiet past.pool.limits past.events
