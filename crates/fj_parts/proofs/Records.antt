-- What a record says: the tickets that were drawn, and what is left of the lanes.
use Rattle.std.proofs.Common.{ℕ, zero, suc, ◌≡◌, List, [], ◌∷◌, ◌++◌, Some, length, reverse, refl, sym, ap, ◌∙◌, subst, arith, length-append}
use Rattle.std.specs.Prelude.{slice_get}
use Rattle.std.proofs.lemmas.List.{append-nil, reverse-append}
use Rattle.std.proofs.lemmas.Grind.{flat_map-append}
use Rattle.fj_rules.specs.declared.event.Event.{Event}
use Rattle.fj_rules.specs.Lists.{times_in}
use Rattle.fj_rules.proofs.Lists.Members.{times_in_append}
use Rattle.fj_gate.specs.Ends.{EntrantState, drawn_by}
use Rattle.fj_gate.specs.Numbers.{IsNumbersBelow}
use Rattle.fj_lane.specs.declared.parcel.Parcel.{Parcel}
use Rattle.fj_lane.specs.Ends.{DrainState}
use Rattle.fj_calls.specs.declared.booking.Booking.{Booking}
use Rattle.fj_calls.specs.Booked.{IsBooked}
use Rattle.fj_submitter.specs.Seats.{HaveMet, SeatState}
use Rattle.fj_parts.specs.Winding.{AreSettled, IsSettled}

-- ---- the tickets, in either order of the entrants

one_drawn : (e : EntrantState) → drawn_by (e ∷ []) ≡ e.drawn
one_drawn e = append-nil e.drawn

-- the tickets of one more, at the end
drawn_last : (es : List EntrantState) (e : EntrantState) → drawn_by (reverse (e ∷ es)) ≡ drawn_by (reverse es) ++ e.drawn
drawn_last es e = ap drawn_by (reverse-append (e ∷ []) es) ∙ flat_map-append (λ (x : EntrantState). x.drawn) (reverse es) (e ∷ []) ∙ ap (λ (ns : List ℕ). drawn_by (reverse es) ++ ns) (one_drawn e)

as_many : (es : List EntrantState) → length (drawn_by (reverse es)) ≡ length (drawn_by es)
as_many [] = refl
as_many (e ∷ es) = omega (arith, ap length (drawn_last es e), length-append (drawn_by (reverse es)) e.drawn, as_many es, length-append e.drawn (drawn_by es))

as_often : (n : ℕ) (es : List EntrantState) → times_in n (drawn_by (reverse es)) ≡ times_in n (drawn_by es)
as_often n [] = refl
as_often n (e ∷ es) = omega (arith, ap (times_in n) (drawn_last es e), times_in_append n (drawn_by (reverse es)) e.drawn, as_often n es, times_in_append n e.drawn (drawn_by es))

pub numbers_either_way : (n : ℕ) (es : List EntrantState) → IsNumbersBelow n (drawn_by (reverse es)) → IsNumbersBelow n (drawn_by es)
numbers_either_way n es are = (sym (as_many es) ∙ are.0, λ x. sym (as_often x es) ∙ are.1 x)

-- ---- lane by lane

module _ {B : Type 0} where
  one_settled : (h : List Event) (bookings : List Booking) (d : DrainState B) (s : SeatState B) (r : List (Parcel B)) → d.drained ++ r ≡ s.feed.fed → IsBooked h bookings s.number d → IsSettled h bookings s r
  one_settled h bookings d s r met booked = record { taken_in = d.drained; all = met; booked = booked.tickets; tasks = booked.tasks }

  -- the seats and drains are those of these numbers
  settled_at : (h : List Event) (bookings : List Booking) (number : ℕ → ℕ) (drains : List (DrainState B)) (seats : List (SeatState B)) (rests : List (List (Parcel B))) → HaveMet drains seats rests
      → ((k : ℕ) (d : DrainState B) → slice_get drains k ≡ Some d → IsBooked h bookings (number k) d) → ((k : ℕ) (s : SeatState B) → slice_get seats k ≡ Some s → s.number ≡ number k) → AreSettled h bookings seats rests
  settled_at h bookings number [] [] [] met booked numbered = tt
  settled_at h bookings number (d ∷ ds) (s ∷ ss) (r ∷ rs) met booked numbered = (
    one_settled h bookings d s r met.0 (subst (λ (n : ℕ). IsBooked h bookings n d) (sym (numbered zero s refl)) (booked zero d refl)),
    settled_at h bookings (λ k. number (suc k)) ds ss rs met.1 (λ k e at. booked (suc k) e at) (λ k t at. numbered (suc k) t at),
  )
  settled_at h bookings number [] [] (r ∷ rs) met booked numbered = absurd met
  settled_at h bookings number [] (s ∷ ss) rests met booked numbered = absurd met
  settled_at h bookings number (d ∷ ds) [] rests met booked numbered = absurd met
  settled_at h bookings number (d ∷ ds) (s ∷ ss) [] met booked numbered = absurd met

  pub all_settled : (h : List Event) (bookings : List Booking) (drains : List (DrainState B)) (seats : List (SeatState B)) (rests : List (List (Parcel B))) → HaveMet drains seats rests
      → ((k : ℕ) (d : DrainState B) → slice_get drains k ≡ Some d → IsBooked h bookings k d) → ((k : ℕ) (s : SeatState B) → slice_get seats k ≡ Some s → s.number ≡ k) → AreSettled h bookings seats rests
  all_settled h bookings drains seats rests = settled_at h bookings (λ k. k) drains seats rests
