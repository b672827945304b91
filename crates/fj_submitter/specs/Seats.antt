-- A submitter's ends: of the gate, and of its lane.
use Rattle.std.specs.Prelude.{ℕ, ◌≡◌, ◌+◌, ◌<◌, true, List, [], ◌∷◌, ◌++◌, Some, length, map, slice_get, slice_set}
use Rattle.atomic_table.specs.Seated.{TableId}
use Rattle.fj_rules.specs.declared.refusal.Refusal.{Refusal}
use Rattle.fj_rules.specs.declared.refusal.Refusal.TheVariants.{Closed, LaneSpent}
use Rattle.fj_gate.specs.Ends.{EntrantState, new_entrant, Draws}
use Rattle.fj_lane.specs.declared.parcel.Parcel.{Parcel}
use Rattle.fj_lane.specs.Ends.{DrainState, LaneId, FeedState, new_drain, new_feed, Pushes}

-- the number of the submitter, and its ends of the gate and of its lane
pub record SeatState (B : Type 0) : Type 0 where
  pub number : ℕ
  pub entrant : EntrantState
  pub feed : FeedState B

module _ {B : Type 0} where
  -- one that has done nothing
  abbrev pub new_seat : TableId → ℕ → ℕ → LaneId → SeatState B
  new_seat gate capacity number lane = record { number = number; entrant = new_entrant gate capacity; feed = new_feed lane capacity }

  -- those of these lanes, numbered from n on
  unfoldable pub seats_from : TableId → ℕ → ℕ → List LaneId → List (SeatState B)
  seats_from gate capacity n [] = []
  seats_from gate capacity n (lane ∷ lanes) = new_seat gate capacity n lane ∷ seats_from gate capacity (n + 1) lanes

  -- those of these entrants, each with its lane, numbered from n on
  unfoldable pub seats_for : ℕ → ℕ → List EntrantState → List LaneId → List (SeatState B)
  seats_for capacity n (e ∷ es) (lane ∷ lanes) = record { number = n; entrant = e; feed = new_feed lane capacity } ∷ seats_for capacity (n + 1) es lanes
  seats_for capacity n [] lanes = []
  seats_for capacity n (e ∷ es) [] = []

  -- its ends are of this gate, and of the lane of its number
  abbrev pub IsNamed : TableId → List LaneId → SeatState B → Type 0
  IsNamed gate lanes s = (s.entrant.gate ≡ gate) × (slice_get lanes s.number ≡ Some s.feed.lane)

  -- the tickets of parcels
  abbrev pub tickets : List (Parcel B) → List ℕ
  tickets parcels = map (λ p. p.ticket) parcels

  -- the parcels that it pushed have the tickets that it drew, and it may draw as many as its lane takes
  abbrev pub IsSeat : SeatState B → Type 0
  IsSeat s = (tickets s.feed.fed ≡ s.entrant.drawn) × (s.entrant.each ≡ s.feed.capacity)

  -- a body is submitted: the ticket is drawn, and the parcel pushed
  pub record Submits (old : SeatState B) (ticket : ℕ) (body : B) (new : SeatState B) : Type 0 where
    pub draws : Draws old.entrant ticket new.entrant
    pub pushes : Pushes old.feed (record { ticket = ticket; body = body }) new.feed
    pub number : new.number ≡ old.number

  -- a refused submission: if the lane is spent the gate was not asked; if there is room the gate said that it is closed
  abbrev pub RefusesSubmission : SeatState B → Refusal → SeatState B → Type 0
  RefusesSubmission old LaneSpent new = (length old.feed.fed ≡ old.feed.capacity) × (new ≡ old)
  RefusesSubmission old Closed new = (length old.feed.fed < old.feed.capacity) × (new ≡ record old { entrant = record old.entrant { told = true } })
  RefusesSubmission old _ new = ⊥

  -- this submitter submits a body, the others nothing
  pub record SubmitsBy (submitter : ℕ) (old : List (SeatState B)) (ticket : ℕ) (body : B) (new : List (SeatState B)) : Type 0 where
    pub before : SeatState B
    pub after : SeatState B
    pub had : slice_get old submitter ≡ Some before
    pub submits : Submits before ticket body after
    pub has : new ≡ slice_set old submitter after

  -- a seat for each entrant, with a lane of its own
  pub record AreSeated (capacity : ℕ) (entrants : List EntrantState) (seats : List (SeatState B)) (drains : List (DrainState B)) : Type 0 where
    pub lanes : List LaneId
    pub lane_each : length lanes ≡ length entrants
    pub seats_are : seats ≡ seats_for capacity 0 entrants lanes
    pub drains_are : drains ≡ map (λ lane. new_drain lane capacity) lanes

  -- these are `count` submitters, in order of their numbers
  abbrev pub AreAll : ℕ → List (SeatState B) → Type 0
  AreAll count seats = (length seats ≡ count) × ((n : ℕ) (seat : SeatState B) → slice_get seats n ≡ Some seat → seat.number ≡ n)

  -- lane by lane, what the drain took, and then what is left, is what was pushed
  abbrev pub HaveMet : List (DrainState B) → List (SeatState B) → List (List (Parcel B)) → Type 0
  HaveMet [] [] [] = Unit {0}
  HaveMet (d ∷ ds) (s ∷ ss) (r ∷ rs) = (d.drained ++ r ≡ s.feed.fed) × HaveMet ds ss rs
  HaveMet [] [] (r ∷ rs) = ⊥
  HaveMet [] (s ∷ ss) rs = ⊥
  HaveMet (d ∷ ds) [] rs = ⊥
  HaveMet (d ∷ ds) (s ∷ ss) [] = ⊥
