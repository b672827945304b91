-- Which tickets the submitters of a pool have drawn.
use Rattle.std.proofs.Common.{ℕ, zero, suc, ◌≡◌, ◌+◌, Bool, true, false, List, [], ◌∷◌, ◌++◌, Option, Some, None, refl, sym, ap, ◌∙◌}
use Rattle.std.specs.Prelude.{◌==◌, cond, nat_lt, if◌then◌else◌, slice_get, slice_set}
use Rattle.std.proofs.lemmas.Bool.{eqb-true}
use Rattle.fj_gate.specs.Numbers.{IsNumbersBelow}
use Rattle.fj_lane.specs.Ends.{LaneId}
use Rattle.fj_gate.specs.Ends.{CloserState}
use Rattle.fj_submitter.specs.Seats.{SeatState, SubmitsBy, seats_from}
use Rattle.fj_parts.specs.Winding.{tickets_of}
use Rattle.fj_rules.specs.Lists.{times_in}
use Rattle.fj_rules.proofs.Lists.Members.{times_in_cons}

-- where two lists are joined to nothing both are empty
nothing_first : (first second : List ℕ) → first ++ second ≡ [] → first ≡ []
nothing_first [] second is = refl
nothing_first (n ∷ first) second is = absurd (let no : n ∷ (first ++ second) ≡ [] = is in cc)

nothing_second : (first second : List ℕ) → first ++ second ≡ [] → second ≡ []
nothing_second [] second is = is
nothing_second (n ∷ first) second is = absurd (let no : n ∷ (first ++ second) ≡ [] = is in cc)

-- new ones drew none
pub none_drawn : (B : Type 0) (closer : CloserState) (capacity n : ℕ) (lanes : List LaneId) → tickets_of (seats_from {B = B} closer.gate capacity n lanes) ≡ []
unfolding seats_from
none_drawn B closer capacity n [] = refl
none_drawn B closer capacity n (lane ∷ lanes) = none_drawn B closer capacity (n + 1) lanes

module _ {B : Type 0} where
  drawn_at : (seats : List (SeatState B)) (submitter ticket : ℕ) (before after : SeatState B) → slice_get seats submitter ≡ Some before → tickets_of seats ≡ []
      → after.entrant.drawn ≡ before.entrant.drawn ++ ticket ∷ [] → tickets_of (slice_set seats submitter after) ≡ ticket ∷ []
  drawn_at [] submitter ticket before after had none draws = absurd (let no : ◌≡◌ {A = Option (SeatState B)} None (Some before) = had in cc)
  drawn_at (seat ∷ seats) zero ticket before after had none draws =
      let same : seat ≡ before = (let is : ◌≡◌ {A = Option (SeatState B)} (Some seat) (Some before) = had in cc) in
      let first : before.entrant.drawn ≡ [] = ap (λ (s : SeatState B). s.entrant.drawn) (sym same) ∙ nothing_first seat.entrant.drawn (tickets_of seats) none in
      let drawn : after.entrant.drawn ≡ ticket ∷ [] = draws ∙ ap (λ (ts : List ℕ). ts ++ ticket ∷ []) first in
      (λ i. drawn i ++ nothing_second seat.entrant.drawn (tickets_of seats) none i)
  drawn_at (seat ∷ seats) (suc submitter) ticket before after had none draws =
      (λ i. nothing_first seat.entrant.drawn (tickets_of seats) none i ++ drawn_at seats submitter ticket before after had (nothing_second seat.entrant.drawn (tickets_of seats) none) draws i)

  -- the first submission has the only one
  pub one_drawn : (old new : List (SeatState B)) (submitter ticket : ℕ) (body : B) → tickets_of old ≡ [] → SubmitsBy submitter old ticket body new → tickets_of new ≡ ticket ∷ []
  one_drawn old new submitter ticket body none is =
      ap (λ (seats : List (SeatState B)). tickets_of seats) is.has
      ∙ drawn_at old submitter ticket is.before is.after is.had none (ap (λ e. e.drawn) is.submits.draws.2)

-- the only one is 0
pub first_is_zero : (admitted ticket : ℕ) → IsNumbersBelow admitted (ticket ∷ []) → (admitted ≡ 1) × (ticket ≡ 0)
first_is_zero admitted ticket are =
    (sym are.0, go (ticket == 0) refl (sym (times_in_cons 0 ticket []) ∙ are.1 0 ∙ ap (λ (n : ℕ). if nat_lt 0 n then 1 else 0) (sym are.0)))
  where
    go : (b : Bool) → (ticket == 0) ≡ b → cond b 1 0 + times_in 0 [] ≡ 1 → ticket ≡ 0
    go true is once = eqb-true ticket 0 is
    go false is once = absurd (let no : 0 ≡ 1 = once in cc)
