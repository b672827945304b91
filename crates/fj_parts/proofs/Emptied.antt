-- Where as many parcels were taken out of the lanes as were pushed, the lanes are empty.
use Rattle.std.proofs.Common.{ℕ, ◌≡◌, ◌+◌, ◌&&◌, Bool, true, false, All, List, [], ◌∷◌, Option, Some, None, length, refl, sym, ap, ◌∙◌, arith, length-append}
use Rattle.std.specs.Prelude.{IfSome}
use Rattle.std.specs.List.{sum_by, slice_index_or}
use Rattle.std.proofs.lemmas.Bool.{eqb-true, true≢false}
use Rattle.std.proofs.lemmas.List.{length-map, nil_from_length}
use Rattle.std.proofs.lemmas.List.Elements.{All-tail}
use Rattle.std.proofs.lemmas.List.Sums.{get_or-le-sum_by, sum_by-cons}
use Rattle.fj_lane.specs.declared.parcel.Parcel.{Parcel}
use Rattle.fj_lane.specs.Ends.{DrainState}
use Rattle.fj_calls.specs.Closes.{is_number}
use Rattle.fj_calls.specs.Closings.{is_over}
use Rattle.fj_rules.specs.Answers.{is_quiet}
use Rattle.fj_rules.specs.Pasts.{Past}
use Rattle.fj_submitter.specs.Seats.{HaveMet, IsSeat, SeatState}
use Rattle.fj_parts.specs.Winding.{AreEmpty, has_terminated, submissions, tickets_of}

module _ {B : Type 0} where
  abbrev drained : DrainState B → ℕ
  drained d = length d.drained

  abbrev fed : SeatState B → ℕ
  fed s = length s.feed.fed

  abbrev left : List (Parcel B) → ℕ
  left r = length r

  sizes : (ds : List (DrainState B)) (ss : List (SeatState B)) (rs : List (List (Parcel B))) → HaveMet ds ss rs → sum_by drained ds + sum_by left rs ≡ sum_by fed ss
  sizes [] [] [] met = refl
  sizes (d ∷ ds) (s ∷ ss) (r ∷ rs) met =
      omega (arith, sum_by-cons drained d ds, sum_by-cons left r rs, sum_by-cons fed s ss, length-append d.drained r, ap length met.0, sizes ds ss rs met.1)
  sizes [] [] (r ∷ rs) met = absurd met
  sizes [] (s ∷ ss) rs met = absurd met
  sizes (d ∷ ds) [] rs met = absurd met
  sizes (d ∷ ds) (s ∷ ss) [] met = absurd met

  -- each submitter pushed as many as it drew tickets
  as_drawn : (ss : List (SeatState B)) → All IsSeat ss → sum_by fed ss ≡ length (tickets_of ss)
  as_drawn [] are = refl
  as_drawn (s ∷ ss) are =
      let here : IsSeat s = are 0 s (omega arith) in
      omega (
        arith,
        sum_by-cons fed s ss,
        length-append s.entrant.drawn (tickets_of ss),
        sym (length-map s.feed.fed (λ (p : Parcel B). p.ticket)) ∙ ap length here.0,
        as_drawn ss (All-tail IsSeat s ss are),
      )

  none_left : (rs : List (List (Parcel B))) → sum_by left rs ≡ 0 → AreEmpty rs
  none_left rs none = λ k r low. nil_from_length (slice_index_or rs k r) (omega (arith, get_or-le-sum_by left rs k r low, none))

  pub emptied : (ds : List (DrainState B)) (ss : List (SeatState B)) (rs : List (List (Parcel B))) (n : ℕ) → HaveMet ds ss rs → All IsSeat ss → n ≡ sum_by drained ds → length (tickets_of ss) ≡ n → AreEmpty rs
  emptied ds ss rs n met are taken admitted = none_left rs (omega (arith, sizes ds ss rs met, as_drawn ss are, taken, admitted))

first_holds : (a b : Bool) → (a && b) ≡ true → a ≡ true
first_holds true b e = refl
first_holds false b e = e

-- where it had terminated, the closing number was reached
reached_by : (closed : Option ℕ) (past : Past) → has_terminated closed past ≡ true → is_number closed (submissions past) ≡ true
reached_by closed past terminated =
    first_holds (is_number closed (submissions past)) (is_over past.events) (first_holds (is_number closed (submissions past) && is_over past.events) (is_quiet past.pool.limits past.events) terminated)

number_is : (closed : Option ℕ) (n admitted : ℕ) → is_number closed n ≡ true → IfSome closed (λ m. admitted ≡ m) → admitted ≡ n
number_is (Some m) n admitted reached at = at ∙ eqb-true m n reached
number_is None n admitted reached at = absurd (true≢false (sym reached))

-- where it had terminated, all that was admitted was accepted
pub all_admitted : (closed : Option ℕ) (past : Past) (admitted : ℕ) → has_terminated closed past ≡ true → IfSome closed (λ m. admitted ≡ m) → admitted ≡ submissions past
all_admitted closed past admitted terminated at = number_is closed (submissions past) admitted (reached_by closed past terminated) at
