-- What contracts see of a core.
use Rattle.std.specs.Prelude.{ℕ, ◌≡◌, ◌≤◌, ◌+◌, ◌%◌, ◌^◌, ◌&&◌, Bool, true, false, not, List, [], ◌++◌, length, map, Option, Some, None, Result, Err}
use Rattle.std.specs.List.{range_with_len, sum_by}
use Rattle.fj_rules.specs.declared.epoch.Sealed.{Sealed}
use Rattle.fj_rules.specs.declared.mode.Mode.{Mode}
use Rattle.fj_rules.specs.declared.refusal.Refusal.{Refusal}
use Rattle.fj_rules.specs.declared.refusal.Refusal.TheVariants.{LogFull, Unknown}
use Rattle.fj_rules.specs.Bounds.{Bounds}
use Rattle.fj_rules.specs.Parts.{Fits}
use Rattle.fj_rules.specs.Pasts.{Past, fresh}
use Rattle.fj_rules.specs.Statuses.{status, is_undone}
use Rattle.fj_rules.specs.Tasks.{is_kept}
use Rattle.fj_lane.specs.Ends.{DrainState}
use Rattle.fj_slots.specs.Shelves.{entries, no_entries}
use Rattle.fj_slots.specs.Hands.{HandState, new_hand}
use Rattle.fj_body.specs.declared.outcomes.Outcome.{Outcome}
use Rattle.fj_body.specs.Results.{Collects}
use Rattle.fj_body.specs.Stores.{StoreState}
use Rattle.fj_calls.specs.declared.booking.Booking.{Booking}
use Rattle.fj_calls.specs.declared.cutoff.Cutoff.{Cutoff}
use Rattle.fj_calls.specs.Archives.{Archived}
use Rattle.fj_calls.specs.Booked.{AreBooked, Booked, booked_under}
use Rattle.fj_calls.specs.Closings.{IsClosing, is_due}

-- these are the parts of the history that were sealed
abbrev pub AreParts : List Sealed → Past → Type 0
AreParts parts past = Fits parts past

-- what contracts see of a core: its store, the drain of each submitter, what was taken in, the closing number, the sealed parts, those that
-- were handed out and those that are kept, and how many seals had no memory
pub record CoreState (B K O : Type 0) : Type 0 where
  pub store : StoreState B K O
  pub lanes : List (DrainState B)
  pub bookings : List Booking
  pub closing : Cutoff
  pub handed : List Sealed
  pub parts : List Sealed
  pub missed_seals : ℕ

-- the first hands: worker w scans from `start + w` on, which wraps in 32 bits
abbrev pub first_hands : {B : Type 0} → ℕ → ℕ → List (HandState B)
first_hands workers start = map (λ w. new_hand w ((start + w) % 2 ^ 32)) (range_with_len 0 workers)

module _ {B K O : Type 0} where
  -- what holds of every core
  pub record IsCore (store : StoreState B K O) (lanes : List (DrainState B)) (bookings : List Booking) (closing : Cutoff) : Type 0 where
    pub booked : AreBooked store.past lanes bookings
    pub closes : IsClosing store.past.events (length bookings) closing store.stuck

  -- the same, with what its parts keep: there is room for a booking of all that the lanes admit, and the archive has the sealed history
  pub record HoldsCore (store : StoreState B K O) (lanes : List (DrainState B)) (bookings : Booked) (closing : Cutoff) (archive : Archived) : Type 0 where
    pub core : IsCore store lanes bookings.bookings closing
    pub room : sum_by (λ d. d.capacity) lanes ≤ bookings.room
    pub parts : AreParts (archive.handed ++ archive.kept) store.past

  -- nothing has happened, and nothing was taken in
  pub record IsNew (mode : Mode) (limits : Bounds) (lanes : List (DrainState B)) (core : CoreState B K O) : Type 0 where
    pub past : core.store.past ≡ fresh mode limits
    pub bodies : entries core.store.bodies ≡ no_entries
    pub results : entries core.store.results ≡ no_entries
    pub taken : core.store.taken ≡ []
    pub free : core.store.stuck ≡ false
    pub lanes_same : core.lanes ≡ lanes
    pub bookings : core.bookings ≡ []
    pub closing : core.closing ≡ record { number = None; stopping = false }
    pub handed : core.handed ≡ []
    pub parts : core.parts ≡ []
    pub missed_seals : core.missed_seals ≡ 0

  -- nothing but the store has changed
  abbrev pub ChangesStore : CoreState B K O → CoreState B K O → Type 0
  ChangesStore old new = new ≡ record old { store = new.store }

  abbrev pub unless_due : Bool → Option (Result (Outcome B K O) Refusal)
  unless_due true = Some (Err Unknown)
  unless_due false = None

  -- the outcome of the task that was booked under a ticket; Unknown if nothing was or will be booked under it
  abbrev pub CollectsBooked : Option ℕ → CoreState B K O → Option (Result (Outcome B K O) Refusal) → CoreState B K O → Type 0
  CollectsBooked (Some t) old answer new = Collects old.store t answer new.store × ChangesStore old new
  CollectsBooked None old answer new = (answer ≡ unless_due (is_due old.closing.number (length old.bookings))) × (new ≡ old)

  -- the same, unless it is stuck
  abbrev pub CollectsUnless : Bool → Option ℕ → CoreState B K O → Option (Result (Outcome B K O) Refusal) → CoreState B K O → Type 0
  CollectsUnless true booked old answer new = (answer ≡ Some (Err LogFull)) × (new ≡ old)
  CollectsUnless false booked old answer new = CollectsBooked booked old answer new

  abbrev pub CollectsTicket : CoreState B K O → ℕ → Option (Result (Outcome B K O) Refusal) → CoreState B K O → Type 0
  CollectsTicket old ticket answer new = CollectsUnless old.store.stuck (booked_under old.bookings ticket) old answer new

  -- whether the task that was booked is undone; if none was, whether one may still be
  abbrev pub is_pending : Option ℕ → CoreState B K O → Bool
  is_pending (Some t) core = is_kept core.store.past.events t && is_undone (status core.store.past.events t)
  is_pending None core = not (is_due core.closing.number (length core.bookings))

  -- whether the outcome under a ticket is still to come
  abbrev pub is_awaited : CoreState B K O → ℕ → Bool
  is_awaited core ticket = not core.store.stuck && is_pending (booked_under core.bookings ticket) core
