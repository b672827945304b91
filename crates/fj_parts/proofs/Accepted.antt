-- As many submissions were booked as the machine accepted.
use Rattle.std.proofs.Common.{ℕ, zero, suc, ◌≡◌, ◌+◌, List, [], ◌∷◌, Some, length, refl, sym, ap, ◌∙◌, arith}
use Rattle.std.specs.Prelude.{slice_get}
use Rattle.std.specs.List.{range_with_len, sum_by}
use Rattle.std.proofs.lemmas.List.{length-map}
use Rattle.std.proofs.lemmas.List.Sums.{sum_by-cons}
use Rattle.fj_rules.specs.declared.owner.Owner.TheVariants.{Sub}
use Rattle.fj_rules.specs.Pasts.{Past}
use Rattle.fj_rules.specs.Queues.{pushed}
use Rattle.fj_lane.specs.declared.parcel.Parcel.{Parcel}
use Rattle.fj_lane.specs.Ends.{DrainState}
use Rattle.fj_calls.specs.declared.booking.Booking.{Booking}
use Rattle.fj_calls.specs.Booked.{AreBooked, booked_by}
use Rattle.fj_parts.specs.Winding.{submissions}

-- a sum over a list is that over the numbers of its places
sum_at : {X : Type 0} (f : X → ℕ) (g : ℕ → ℕ) (n : ℕ) (xs : List X) → ((k : ℕ) (x : X) → slice_get xs k ≡ Some x → f x ≡ g (n + k)) → sum_by f xs ≡ sum_by g (range_with_len n (length xs))
sum_at f g n [] each = refl
sum_at f g n (x ∷ xs) each =
    let first : n + 0 ≡ n = omega arith in
    let next : (k : ℕ) → n + suc k ≡ n + 1 + k = λ k. omega arith in
    let here : f x ≡ g n = each zero x refl ∙ ap g first in
    let rest : sum_by f xs ≡ sum_by g (range_with_len (n + 1) (length xs)) = sum_at f g (n + 1) xs (λ k y at. each (suc k) y at ∙ ap g (next k)) in
    omega (arith, here, rest, sum_by-cons f x xs, sum_by-cons g n (range_with_len (n + 1) (length xs)))

abbrev ticket_of : Booking → ℕ
ticket_of b = b.ticket

abbrev serial_of : Booking → ℕ
serial_of b = b.serial

module _ {B : Type 0} where
  abbrev ticket : Parcel B → ℕ
  ticket p = p.ticket

  pub booked_accepted : (past : Past) (lanes : List (DrainState B)) (bookings : List Booking) → AreBooked past lanes bookings → length bookings ≡ submissions past
  booked_accepted past lanes bookings are =
      let each : (k : ℕ) (d : DrainState B) → slice_get lanes k ≡ Some d → length d.drained ≡ length (pushed past.events (Sub (0 + k))) = λ k d at.
      let booked = booked_by bookings k in
      let here = are.each k d at in
      let same : k ≡ 0 + k = omega arith in
      sym (length-map d.drained ticket) ∙ sym (ap (λ (ns : List ℕ). length ns) here.tickets) ∙ length-map booked ticket_of ∙ sym (length-map booked serial_of) ∙ ap (λ (ns : List ℕ). length ns) here.tasks ∙ ap (λ (n : ℕ). length (pushed past.events (Sub n))) same in
      are.all ∙ sum_at (λ (d : DrainState B). length d.drained) (λ (n : ℕ). length (pushed past.events (Sub n))) 0 lanes each ∙ ap (λ (n : ℕ). sum_by (λ s. length (pushed past.events (Sub s))) (range_with_len 0 n)) are.lane_each
