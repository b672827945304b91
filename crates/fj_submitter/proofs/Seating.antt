-- A lane for each entrant, one after another.
use Rattle.std.proofs.Common.{ℕ, ◌≡◌, ◌+◌, List, [], ◌∷◌, ◌++◌, length, map, refl, sym, ap, ◌∙◌, arith, length-append}
use Rattle.std.proofs.lemmas.List.{map-append}
use Rattle.fj_gate.specs.Ends.{EntrantState, new_entrant}
use Rattle.fj_lane.specs.Ends.{DrainState, FeedState, LaneId, new_drain, new_feed}
use Rattle.fj_submitter.specs.Seats.{AreSeated, SeatState, new_seat, seats_for}

module _ {B : Type 0} where
  -- one more seat
  seats_more : (capacity n : ℕ) (es : List EntrantState) (lanes : List LaneId) (e : EntrantState) (lane : LaneId) → length lanes ≡ length es
      → seats_for {B = B} capacity n (es ++ e ∷ []) (lanes ++ lane ∷ []) ≡ seats_for capacity n es lanes ++ record { number = n + length es; entrant = e; feed = new_feed lane capacity } ∷ []
  unfolding seats_for
  seats_more capacity n [] [] e lane same =
      let last : n ≡ n + length {A = EntrantState} [] = omega arith in
      ap (λ (k : ℕ). let seat : SeatState B = record { number = k; entrant = e; feed = new_feed lane capacity } in seat ∷ []) last
  seats_more capacity n (x ∷ es) (l ∷ lanes) e lane same =
      let rest = seats_more capacity (n + 1) es lanes e lane (omega (arith, same)) in
      let last : n + 1 + length es ≡ n + length (x ∷ es) = omega arith in
      ap (λ (ss : List (SeatState B)). record { number = n; entrant = x; feed = new_feed l capacity } ∷ ss) (rest ∙ ap (λ (k : ℕ). seats_for capacity (n + 1) es lanes ++ record { number = k; entrant = e; feed = new_feed lane capacity } ∷ []) last)
  seats_more capacity n [] (l ∷ lanes) e lane same = absurd (omega (arith, same))
  seats_more capacity n (x ∷ es) [] e lane same = absurd (omega (arith, same))

  -- no entrants
  pub none_seated : (capacity : ℕ) (seats : List (SeatState B)) (drains : List (DrainState B)) → seats ≡ [] → drains ≡ [] → AreSeated capacity [] seats drains
  unfolding seats_for
  none_seated capacity seats drains no_seats no_drains = record { lanes = []; lane_each = refl; seats_are = no_seats; drains_are = no_drains }

  -- one entrant more, with its lane
  pub one_seated : (capacity number : ℕ) (es : List EntrantState) (e : EntrantState) (seats seats' : List (SeatState B)) (drains drains' : List (DrainState B)) (seat : SeatState B) (feed : FeedState B) (drain : DrainState B)
      → AreSeated capacity es seats drains → number ≡ length es → e ≡ new_entrant e.gate capacity → feed ≡ new_feed drain.lane capacity → drain ≡ new_drain drain.lane capacity → seat ≡ new_seat e.gate capacity number feed.lane
      → seats' ≡ seats ++ seat ∷ [] → drains' ≡ drains ++ drain ∷ [] → AreSeated capacity (es ++ e ∷ []) seats' drains'
  one_seated capacity number es e seats seats' drains drains' seat feed drain are counted new feed_is drain_is seat_is more_seats more_drains =
      let first : length es ≡ 0 + length es = omega arith in
      let at : ℕ → SeatState B = λ k. record { number = k; entrant = e; feed = new_feed drain.lane capacity } in
      let this : seat ≡ at (0 + length es) = seat_is ∙ (λ i. record { number = (counted ∙ first) i; entrant = sym new i; feed = new_feed ((feed_is i).lane) capacity }) in record {
        lanes = are.lanes ++ drain.lane ∷ [];
        lane_each = omega (arith, are.lane_each, length-append are.lanes (drain.lane ∷ []), length-append es (e ∷ []));
        seats_are = more_seats ∙ ap (λ (ss : List (SeatState B)). ss ++ seat ∷ []) are.seats_are ∙ ap (λ (s : SeatState B). seats_for capacity 0 es are.lanes ++ s ∷ []) this ∙ sym (seats_more capacity 0 es are.lanes e drain.lane are.lane_each);
        drains_are = more_drains ∙ ap (λ (ds : List (DrainState B)). ds ++ drain ∷ []) are.drains_are ∙ ap (λ (d : DrainState B). map (λ l. new_drain l capacity) are.lanes ++ d ∷ []) drain_is
            ∙ sym (map-append (λ (l : LaneId). new_drain l capacity) are.lanes (drain.lane ∷ []));
      }
