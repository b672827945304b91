-- An intake.
use Rattle.std.proofs.Common.{ℕ, ◌≡◌, ◌+◌, ◌≤◌, Bool, true, false, inl, inr, List, [], ◌∷◌, ◌++◌, length, Option, Some, None, refl, ap, sym, ◌∙◌, subst, length-append}
use Rattle.std.specs.Prelude.{◌||◌, slice_get, slice_set}
use Rattle.fj_rules.specs.declared.event.Event.{Event}
use Rattle.fj_rules.specs.declared.event.Event.TheVariants.{Acc}
use Rattle.fj_rules.specs.declared.owner.Owner.TheVariants.{Sub}
use Rattle.fj_rules.specs.declared.kind.Kind.{Kind}
use Rattle.fj_rules.specs.declared.refusal.Refusal.{Refusal}
use Rattle.fj_rules.specs.declared.refusal.Refusal.TheVariants.{LogFull, Closed}
use Rattle.fj_rules.specs.declared.kind.SubmittedKind.{SubmittedKind}
use Rattle.fj_rules.specs.declared.said.Said.TheVariants as says
use Rattle.fj_rules.specs.declared.step.Step.TheVariants.{Submit}
use Rattle.fj_rules.specs.Allowed.{is_closed, is_stopped}
use Rattle.fj_rules.specs.Answers.{refusal_of}
use Rattle.fj_rules.specs.Runs.{Steps}
use Rattle.fj_rules.specs.Tasks.{accepted, submitted_kind}
use Rattle.fj_rules.specs.Pasts.{Past, grown}
use Rattle.fj_rules.proofs.Events.Closing.{closed_more, stopped_more}
use Rattle.fj_lane.specs.declared.parcel.Parcel.{Parcel}
use Rattle.fj_lane.specs.Ends.{DrainState}
use Rattle.fj_body.specs.Stores.{StoreState, StaysInside}
use Rattle.fj_body.proofs.Frames.{same_past_stays, same_stays}
use Rattle.fj_rules.proofs.Steps.Answered.{submit_made}
use Rattle.fj_calls.specs.declared.booking.Booking.{Booking}
use Rattle.fj_calls.specs.declared.cutoff.Cutoff.{Cutoff}
use Rattle.fj_calls.specs.declared.taken_in.Intake.{Intake}
use Rattle.fj_calls.specs.declared.taken_in.Intake.TheVariants as intake
use Rattle.fj_calls.specs.Booked.{AreBooked, Booked}
use Rattle.fj_calls.specs.Closings.{IsClosing, is_due}
use Rattle.fj_calls.specs.Closes.{Dues}
use Rattle.fj_calls.specs.Cores.{IsCore}
use Rattle.fj_calls.specs.Intakes.{Readies, is_log_full, with_drained}
use Rattle.fj_core.proofs.Lanes.{PushesNone, took_booked, missed_booked}
use Rattle.fj_core.proofs.Reached.{OnlyReached, only_same, only_more}
use Rattle.fj_core.proofs.Shutting.{due_pushes_none, due_closes}

-- ---- refusals

pub not_full : (r : Refusal) → (r ≡ LogFull → ⊥) → is_log_full r ≡ false
not_full LogFull other = absurd (other refl)
not_full _ other = refl

pub full_open : (r : Refusal) → r ≡ LogFull → r ≡ Closed → ⊥
full_open r is at = let no : LogFull ≡ Closed = sym is ∙ at in cc

or_none : (b : Bool) → (b || false) ≡ b
or_none true = refl
or_none false = refl

-- how many bookings there are then
pub one_more : (before after : Booked) (b : Booking) (k : ℕ) → after ≡ record before { bookings = before.bookings ++ b ∷ [] } → k ≡ length after.bookings → k ≡ length before.bookings + 1
one_more before after b k more long = long ∙ ap (λ (x : Booked). length x.bookings) more ∙ length-append before.bookings (b ∷ [])

-- a submission that is not refused accepts its task
pub submitted_event : (past new : Past) (s t : ℕ) (k : SubmittedKind) → refusal_of past (Submit s k) ≡ None → Steps past (Submit s k) (says.Task t) new → new ≡ grown past (Acc t (Sub s) (submitted_kind k) ∷ [])
submitted_event past new s t k free step =
    let made = submit_made past s k free in
    let same : accepted past.events ≡ t = task_same (accepted past.events) t (sym made.0 ∙ sym step.0) in
    step.1 ∙ ap (grown past) (made.1 ∙ ap (λ u. Acc u (Sub s) (submitted_kind k) ∷ []) same)
  where
    task_same : (a b : ℕ) → says.Task a ≡ says.Task b → a ≡ b
    task_same a b is = cc

-- a task that is accepted closes nothing
still_only : (h : List Event) (t s k : ℕ) (kind : Kind) (number : Option ℕ) → OnlyReached h k number → OnlyReached (h ++ Acc t (Sub s) kind ∷ []) (k + 1) number
still_only h t s k kind number only =
    only_same h (h ++ Acc t (Sub s) kind ∷ []) (k + 1) number (closed_more h (Acc t (Sub s) kind) ∙ or_none (is_closed h)) (stopped_more h (Acc t (Sub s) kind) ∙ or_none (is_stopped h)) (only_more h k number only)

module _ {B K O : Type 0} where
  pub readies_stay : (old new : StoreState B K O) (s : ℕ) (answer : Intake) → Readies old s (Some answer) new → StaysInside old new
  readies_stay old new s (intake.Full r) (inl was) = same_stays old new was.2
  readies_stay old new s (intake.Full r) (inr now) = same_past_stays old new (ap (λ (st : StoreState B K O). st.past) now.sticks) (λ is. now.free)
  readies_stay old new s intake.Empty is = same_stays old new is.2
  readies_stay old new s (intake.Took t) is = absurd is

  -- mode and limits after a task was accepted, and what is due was made
  pub taken_pool : (due stopping : Bool) (old ready mid new : StoreState B K O) (es : List Event) → ready ≡ old → mid.past ≡ grown ready.past es → Dues due stopping mid new → new.past.pool ≡ old.past.pool
  taken_pool due stopping old ready mid new es same grew made =
      (due_pushes_none due stopping mid new made).pool ∙ ap (λ (p : Past). p.pool) grew ∙ ap (λ (s : StoreState B K O). s.past.pool) same

  -- the core after the drain gave nothing
  pub missed_core : (store : StoreState B K O) (lanes : List (DrainState B)) (bookings : List Booking) (closing : Cutoff) (s : ℕ) (d e : DrainState B) → slice_get lanes s ≡ Some d → e.drained ≡ d.drained → e.capacity ≡ d.capacity
      → IsCore store lanes bookings closing → IsCore store (slice_set lanes s e) bookings closing
  missed_core store lanes bookings closing s d e at drained capacity is = record { booked = missed_booked store.past lanes bookings s d e at drained capacity is.booked; closes = is.closes }

  -- the core after a parcel was taken in, and what is due was made
  pub took_core : (old mid new : StoreState B K O) (lanes : List (DrainState B)) (bookings bookings' : List Booking) (closing : Cutoff) (s t k : ℕ) (kind : Kind) (d e : DrainState B) (p : Parcel B)
      → mid.past ≡ grown old.past (Acc t (Sub s) kind ∷ []) → slice_get lanes s ≡ Some d → e ≡ with_drained d p → length e.drained ≤ e.capacity
      → bookings' ≡ bookings ++ record { ticket = p.ticket; serial = t; by = s } ∷ [] → k ≡ length bookings' → Dues (is_due closing.number k) closing.stopping mid new → IsCore old lanes bookings closing
      → IsCore new (slice_set lanes s e) bookings' closing
  took_core old mid new lanes bookings bookings' closing s t k kind d e p grew at took few more long due is = record {
    booked =
        subst (λ bs. AreBooked new.past (slice_set lanes s e) bs) (sym more) (took_booked old.past new.past lanes bookings s t kind d e p at (ap (λ (d : DrainState B). d.drained) took) few
        (subst (λ (q : Past). PushesNone q new.past) grew (due_pushes_none (is_due closing.number k) closing.stopping mid new due)) is.booked);
    closes =
        subst (λ n. IsClosing new.past.events n closing new.stuck) long
        (due_closes k closing (is_due closing.number k) mid new refl
        (subst (λ (q : Past). OnlyReached q.events k closing.number) (sym grew)
        (subst (λ n. OnlyReached (old.past.events ++ Acc t (Sub s) kind ∷ []) n closing.number) (sym count) (still_only old.past.events t s (length bookings) kind closing.number is.closes.only))) due);
  }
    where
      count : k ≡ length bookings + 1
      count = long ∙ ap (λ (bs : List Booking). length bs) more ∙ length-append bookings (record { ticket = p.ticket; serial = t; by = s } ∷ [])

  -- the same, as an intake does it
  pub intake_core : (old ready mid new : StoreState B K O) (lanes : List (DrainState B)) (before after : Booked) (closing : Cutoff) (s i t k : ℕ) (kind : Kind) (d e : DrainState B) (p : Parcel B)
      → i ≡ s → ready ≡ old → mid.past ≡ grown ready.past (Acc t (Sub s) kind ∷ []) → slice_get lanes i ≡ Some d → e ≡ with_drained d p → length e.drained ≤ e.capacity
      → after ≡ record before { bookings = before.bookings ++ record { ticket = p.ticket; serial = t; by = s } ∷ [] } → k ≡ length after.bookings → Dues (is_due closing.number k) closing.stopping mid new
      → IsCore old lanes before.bookings closing → IsCore new (slice_set lanes i e) after.bookings closing
  intake_core old ready mid new lanes before after closing s i t k kind d e p there same grew at took few more long due is =
      subst (λ j. IsCore new (slice_set lanes j e) after.bookings closing) (sym there)
      (took_core old mid new lanes before.bookings after.bookings closing s t k kind d e p (grew ∙ ap (λ (st : StoreState B K O). grown st.past (Acc t (Sub s) kind ∷ [])) same) (subst (λ j. slice_get lanes j ≡ Some d) there at) took few
      (ap (λ (b : Booked). b.bookings) more) long due is)
