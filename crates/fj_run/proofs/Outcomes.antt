-- What a player saw told of its one submission is in the record.
use Rattle.std.proofs.Common.{ℕ, ◌≡◌, List, [], sym, ap, ◌∙◌, subst}
use Rattle.std.specs.Prelude.{IfOk, Result, Ok, Err}
use Rattle.fj_rules.specs.declared.event.Event.{Event}
use Rattle.fj_rules.specs.declared.refusal.Refusal.{Refusal}
use Rattle.fj_rules.specs.declared.refusal.Refusal.TheVariants.{LogFull}
use Rattle.fj_rules.specs.Pasts.{Past}
use Rattle.fj_body.specs.declared.outcomes.Outcome.{Outcome}
use Rattle.fj_gate.specs.Numbers.{IsNumbersBelow}
use Rattle.fj_calls.specs.declared.booking.Booking.{Booking}
use Rattle.fj_guarded.specs.Continuing.{IsToldIn, IsToldNow}
use Rattle.fj_guarded.proofs.GoesOn.{told_at_last}
use Rattle.fj_parts.specs.declared.record.Record.{Record}
use Rattle.fj_submitter.specs.Seats.{SeatState, SubmitsBy}
use Rattle.fj_parts.specs.Winding.{tickets_of}
use Rattle.fj_run.specs.Playing.{IsLeftOf, IsOutcomeOf, RunningState, SawOne}
use Rattle.fj_run.specs.Runs.{told_of}
use Rattle.fj_run.proofs.Tickets.{first_is_zero, one_drawn}

module _ {B K O : Type 0} where
  -- the outcome of the first submission was seen to be told
  pub saw_one : (old mid new : RunningState B K O) (ticket : ℕ) (body : B) (answer : Result (Outcome B K O) Refusal) → tickets_of old.seats ≡ [] → SubmitsBy 0 old.seats ticket body mid.seats
      → new.seats ≡ mid.seats → IfOk answer (λ outcome. IsToldNow new.seen ticket outcome) → IfOk answer (λ outcome. SawOne new outcome)
  saw_one old mid new ticket body (Ok outcome) none submits same told = record {
    ticket = ticket;
    one = ap (λ (seats : List (SeatState B)). tickets_of seats) same ∙ one_drawn old.seats mid.seats 0 ticket body none submits;
    core = told.0;
    now = told.1;
    told = told.2;
  }
  saw_one old mid new ticket body (Err refusal) none submits same told = tt

  outcome_left : (last : RunningState B K O) (left : Record B K O) (outcome : Outcome B K O) → SawOne last outcome → IsLeftOf last left → IsOutcomeOf left outcome
  outcome_left last left outcome saw is =
      let zero = first_is_zero left.admitted saw.ticket (subst (λ (ts : List ℕ). IsNumbersBelow left.admitted ts) saw.one is.admitted) in
      let told = told_at_last last.seen is.log is.core saw.ticket outcome is.begins is.ends (saw.core, saw.now, saw.told) in
      let booked = subst (λ (bs : List Booking). IsToldIn bs is.core.store.past.events saw.ticket outcome) (sym is.bookings) told in
      let history = subst (λ (h : List Event). IsToldIn left.bookings.bookings h saw.ticket outcome) (ap (λ (past : Past). past.events) (sym is.past)) booked in
      (zero.0, subst (λ (ticket : ℕ). IsToldIn left.bookings.bookings left.machine.events ticket outcome) zero.1 history)

  -- the same of the answer
  pub answer_left : (last : RunningState B K O) (left : Record B K O) (out : Result (Outcome B K O) Refusal) → IfOk out (λ outcome. SawOne last outcome) → IsLeftOf last left
      → IfOk (told_of out) (λ outcome. IsOutcomeOf left outcome)
  answer_left last left (Ok outcome) saw is = outcome_left last left outcome saw is
  answer_left last left (Err LogFull) saw is = tt
  answer_left last left (Err _) saw is = tt
