-- A lane for each entrant, one after another.
use Rattle.std.proofs.Common.{ℕ, zero, suc, ◌≡◌, ◌+◌, List, [], ◌∷◌, ◌++◌, Option, None, Some, All, get_or, length, map, refl, sym, ap, ◌∙◌, subst, arith, length-append}
use Rattle.std.specs.Prelude.{slice_get}
use Rattle.std.proofs.lemmas.Option.{slice_get-get_or}
use Rattle.std.proofs.lemmas.List.{map-append}
use Rattle.std.proofs.lemmas.List.Elements.{All-head, All-tail, All-map}
use Rattle.atomic_table.specs.Seated.{TableId}
use Rattle.fj_gate.specs.Ends.{CloserState, EntrantState, new_closer, new_entrant}
use Rattle.fj_lane.specs.Ends.{DrainState, FeedState, LaneId, new_drain, new_feed}
use Rattle.fj_submitter.specs.Lanes.{lanes_of}
use Rattle.fj_parts.specs.Parts.{ArePaired}
use Rattle.fj_submitter.specs.Seats.{AreAll, AreSeated, IsNamed, SeatState, new_seat, seats_for, seats_from}

-- the seats of a pool are all submitters, by their numbers
pub all_seats : {B : Type 0} (closer : CloserState) (lanes named : List LaneId) (seats : List (SeatState B)) → ArePaired closer lanes seats → named ≡ lanes → AreAll (length named) seats
all_seats closer lanes named seats are same = (are.lane_each ∙ ap length (sym same), λ n seat at. (are.each n seat at).0)

-- what is in the same option is the same
same_some : {A : Type 0} (a b : A) → Some a ≡ Some b → a ≡ b
same_some a b e = cc

-- a new seat for each lane
length_from : (B : Type 0) (gate : TableId) (capacity n : ℕ) (lanes : List LaneId) → length (seats_from {B = B} gate capacity n lanes) ≡ length lanes
unfolding seats_from
length_from B gate capacity n [] = refl
length_from B gate capacity n (l ∷ lanes) = ap (λ k. suc k) (length_from B gate capacity (n + 1) lanes)

-- new drains are of their lanes
lanes_new : (B : Type 0) (capacity : ℕ) (lanes : List LaneId) → lanes_of {B = B} (map (λ l. new_drain l capacity) lanes) ≡ lanes
lanes_new B capacity [] = refl
lanes_new B capacity (l ∷ lanes) = ap (λ (ls : List LaneId). l ∷ ls) (lanes_new B capacity lanes)

module _ {B : Type 0} where
  -- the seats of new entrants are new
  seats_new : (gate : TableId) (capacity n : ℕ) (es : List EntrantState) (lanes : List LaneId) → length lanes ≡ length es → All (λ e. e ≡ new_entrant gate capacity) es → seats_for {B = B} capacity n es lanes ≡ seats_from gate capacity n lanes
  unfolding seats_for seats_from
  seats_new gate capacity n [] [] same new = refl
  seats_new gate capacity n (e ∷ es) (l ∷ lanes) same new =
      let first : e ≡ new_entrant gate capacity = All-head (λ x. x ≡ new_entrant gate capacity) e es new in
      let rest = seats_new gate capacity (n + 1) es lanes (omega (arith, same)) (All-tail (λ x. x ≡ new_entrant gate capacity) e es new) in
      (λ i. record { number = n; entrant = first i; feed = new_feed l capacity } ∷ rest i)
  seats_new gate capacity n [] (l ∷ lanes) same new = absurd (omega (arith, same))
  seats_new gate capacity n (e ∷ es) [] same new = absurd (omega (arith, same))

  -- new entrants, seated, are new seats
  pub all_new : (gate : TableId) (capacity : ℕ) (es : List EntrantState) (seats : List (SeatState B)) (drains : List (DrainState B)) → (are : AreSeated capacity es seats drains) → All (λ e. e ≡ new_entrant gate capacity) es
      → seats ≡ seats_from gate capacity 0 are.lanes
  all_new gate capacity es seats drains are new = are.seats_are ∙ seats_new gate capacity 0 es are.lanes are.lane_each new

  -- each new seat has its number, the gate, and the lane of its number
  each_from : (gate : TableId) (capacity n : ℕ) (lanes : List LaneId) (k : ℕ) (seat : SeatState B) → slice_get (seats_from {B = B} gate capacity n lanes) k ≡ Some seat
      → (seat.number ≡ n + k) × (seat.entrant.gate ≡ gate) × (slice_get lanes k ≡ Some seat.feed.lane)
  unfolding seats_from
  each_from gate capacity n [] k seat is = absurd (let no : ◌≡◌ {A = Option (SeatState B)} None (Some seat) = is in cc)
  each_from gate capacity n (l ∷ lanes) zero seat is =
      let same : new_seat {B = B} gate capacity n l ≡ seat = same_some (new_seat {B = B} gate capacity n l) seat is in
      let number : n ≡ seat.number = ap (λ (s : SeatState B). s.number) same in
      (omega (arith, number), sym (ap (λ (s : SeatState B). s.entrant.gate) same), ap (λ (s : SeatState B). Some s.feed.lane) same)
  each_from gate capacity n (l ∷ lanes) (suc k) seat is =
      let rest = each_from gate capacity (n + 1) lanes k seat is in
      (omega (arith, rest.0), rest.1, rest.2)

  -- what holds of a new drain, whatever its lane, holds of all of them
  pub all_drains : (P : DrainState B → Type 0) (capacity : ℕ) (es : List EntrantState) (seats : List (SeatState B)) (drains : List (DrainState B)) → AreSeated capacity es seats drains → ((l : LaneId) → P (new_drain l capacity)) → All P drains
  all_drains P capacity es seats drains are holds = subst (λ (ds : List (DrainState B)). All P ds) (sym are.drains_are) (All-map P (λ l. new_drain l capacity) are.lanes (λ k d within. holds _))

  -- a core with these drains is paired with these seats
  pub paired : (capacity submitters : ℕ) (closer : CloserState) (es : List EntrantState) (seats : List (SeatState B)) (drains lanes : List (DrainState B)) → AreSeated capacity es seats drains
      → closer ≡ new_closer closer.gate submitters → length es ≡ submitters → All (λ e. e ≡ new_entrant closer.gate capacity) es → lanes ≡ drains → ArePaired closer (lanes_of lanes) seats
  paired capacity submitters closer es seats drains lanes are closer_is many new same =
      let seats_are : seats ≡ seats_from closer.gate capacity 0 are.lanes = all_new closer.gate capacity es seats drains are new in
      let lanes_are : lanes_of lanes ≡ are.lanes = ap lanes_of (same ∙ are.drains_are) ∙ lanes_new B capacity are.lanes in
      let all : closer.submitters ≡ submitters = ap (λ (x : CloserState). x.submitters) closer_is in
      let pairs : ArePaired closer are.lanes (seats_from closer.gate capacity 0 are.lanes) = record {
        all = omega (arith, all, many, are.lane_each);
        lane_each = length_from B closer.gate capacity 0 are.lanes;
        each = λ n seat is. let one = each_from closer.gate capacity 0 are.lanes n seat is in (omega (arith, one.0), one.1, one.2);
      } in
      subst (λ (x : List LaneId × List (SeatState B)). ArePaired closer x.0 x.1) (λ i. (sym lanes_are i, sym seats_are i)) pairs

  -- what is paired has the name of its gate and its lanes
  pub all_named : (closer : CloserState) (gate : TableId) (lanes named : List LaneId) (seats : List (SeatState B)) → ArePaired closer lanes seats → gate ≡ closer.gate → named ≡ lanes → All (λ s. IsNamed gate named s) seats
  all_named closer gate lanes named seats pairs gate_is lanes_are = λ k d within.
      let one = pairs.each k (get_or seats k d) (slice_get-get_or seats k d within) in
      (one.1 ∙ sym gate_is, (λ i. slice_get (lanes_are i) (one.0 i)) ∙ one.2)
