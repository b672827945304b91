-- The parts of a pool, before it is opened.
use Rattle.std.specs.Prelude.{ℕ, ◌≡◌, ◌<◌, ◌≤◌, ◌⊎◌, List, Some, length, map, slice_get}
use Rattle.atomic_table.specs.Seated.{TableId}
use Rattle.fj_rules.specs.declared.mode.Mode.{Mode}
use Rattle.fj_rules.specs.declared.refusal.Refusal.{Refusal}
use Rattle.fj_rules.specs.declared.refusal.Refusal.TheVariants.{BadLimits, OutOfMemory}
use Rattle.fj_rules.specs.Bounds.{Bounds}
use Rattle.fj_gate.specs.Ends.{CloserState, EntrantState, new_closer}
use Rattle.fj_lane.specs.declared.new_lane.TheConstants.{MAX_CAPACITY}
use Rattle.fj_lane.specs.Ends.{LaneId, DrainState, new_drain}
use Rattle.fj_slots.specs.Hands.{HandState}
use Rattle.fj_calls.specs.Cores.{CoreState, IsNew, first_hands}
use Rattle.fj_submitter.specs.Seats.{SeatState, seats_for, seats_from}

-- the core, the hand of each worker, the pair of its ends, the ends of each submitter, the end that closes the gate, and the log
pub record PartsState (B K O : Type 0) : Type 0 where
  pub core : CoreState B K O
  pub hands : List (HandState B)
  pub pairs : List TableId
  pub seats : List (SeatState B)
  pub closer : CloserState
  pub log : TableId

-- each submitter has the ends of this gate and of the lane of its number
pub record ArePaired {B : Type 0} (closer : CloserState) (lanes : List LaneId) (seats : List (SeatState B)) : Type 0 where
  pub all : closer.submitters ≡ length lanes
  pub lane_each : length seats ≡ length lanes
  pub each : (n : ℕ) (seat : SeatState B) → slice_get seats n ≡ Some seat → (seat.number ≡ n) × (seat.entrant.gate ≡ closer.gate) × (slice_get lanes n ≡ Some seat.feed.lane)

-- nothing has happened
pub record AreNew {B K O : Type 0} (mode : Mode) (limits : Bounds) (capacity start : ℕ) (parts : PartsState B K O) : Type 0 where
  pub lanes : List LaneId
  pub lane_each : length lanes ≡ limits.submitters
  pub core : IsNew mode limits (map (λ lane. new_drain lane capacity) lanes) parts.core
  pub hands : parts.hands ≡ first_hands limits.workers start
  pub seats : parts.seats ≡ seats_from parts.closer.gate capacity 0 lanes
  pub closer : parts.closer ≡ new_closer parts.closer.gate limits.submitters

-- why a pool is refused: the capacity of a lane is out of range, or it is in range and an allocation failed
abbrev pub RefusesPool : ℕ → Refusal → Type 0
RefusesPool capacity BadLimits = (capacity ≡ 0) ⊎ (MAX_CAPACITY < capacity)
RefusesPool capacity OutOfMemory = (1 ≤ capacity) × (capacity ≤ MAX_CAPACITY)
RefusesPool capacity _ = ⊥
