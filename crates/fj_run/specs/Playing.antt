-- What a player sees of its pool, and what is left of the pool then.
use Rattle.std.specs.Prelude.{ℕ, ◌≡◌, List, [], ◌∷◌, IfSome, Option, Some}
use mathlib.Core.List.{IsPrefix}
use Rattle.fj_body.specs.declared.outcomes.Outcome.{Outcome}
use Rattle.fj_gate.specs.Numbers.{IsNumbersBelow}
use Rattle.fj_calls.specs.Cores.{CoreState}
use Rattle.fj_guarded.specs.Continuing.{EndsIn, IsNow, IsTold, IsToldIn}
use Rattle.fj_parts.specs.declared.record.Record.{Record}
use Rattle.fj_submitter.specs.Seats.{SeatState}
use Rattle.fj_parts.specs.Winding.{AreSettled, tickets_of}

-- the history of the pool that the player has seen, and what each submitter has submitted
pub record RunningState (B K O : Type 0) : Type 0 where
  pub seen : List (CoreState B K O)
  pub seats : List (SeatState B)

module _ {B K O : Type 0} where
  -- if it played, the player tells this of what it has seen and submitted
  abbrev pub HasTold : {Out : Type 0} → (RunningState B K O → Out → Type 0) → Option (Out × List (CoreState B K O)) → List (SeatState B) → Type 0
  HasTold told played seats = IfSome played (λ p. told (record { seen = p.1; seats = seats }) p.0)

  -- what is left of a pool of which the player saw this: its history goes on from what was seen, up to the record, and the submitters
  -- submitted nothing more
  pub record IsLeftOf (last : RunningState B K O) (left : Record B K O) : Type 0 where
    pub log : List (CoreState B K O)
    pub core : CoreState B K O
    pub begins : IsPrefix last.seen log
    pub ends : EndsIn log core
    pub past : left.machine ≡ core.store.past
    pub bookings : left.bookings.bookings ≡ core.bookings
    pub lanes : AreSettled left.machine.events left.bookings.bookings last.seats left.lanes.items
    pub admitted : IsNumbersBelow left.admitted (tickets_of last.seats)

  -- one body was submitted, and the player saw its outcome told
  pub record SawOne (last : RunningState B K O) (outcome : Outcome B K O) : Type 0 where
    pub ticket : ℕ
    pub one : tickets_of last.seats ≡ ticket ∷ []
    pub core : CoreState B K O
    pub now : IsNow last.seen core
    pub told : IsTold core ticket outcome

  -- one body was admitted, under ticket 0; its task has the status of the outcome
  abbrev pub IsOutcomeOf : Record B K O → Outcome B K O → Type 0
  IsOutcomeOf left outcome = (left.admitted ≡ 1) × IsToldIn left.bookings.bookings left.machine.events 0 outcome
