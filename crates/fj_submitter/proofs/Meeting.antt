-- The ends of each lane meet, the last first, and the ends of the gate are laid together.
use Rattle.std.proofs.Common.{ℕ, ◌≡◌, All, List, [], ◌∷◌, ◌++◌, Some, length, map, reverse, refl, sym, ap, ◌∙◌, subst, arith, append_assoc, length-append}
use Rattle.std.specs.Prelude.{slice_get}
use Rattle.std.specs.Option.{option_map}
use Rattle.std.proofs.lemmas.List.{append-nil, length-map, reverse-append}
use Rattle.std.proofs.lemmas.List.Elements.{All-cons, All-nil}
use Rattle.std.proofs.lemmas.Option.{slice_get-map}
use Rattle.fj_gate.specs.Ends.{EntrantState}
use Rattle.fj_lane.specs.declared.parcel.Parcel.{Parcel}
use Rattle.fj_lane.specs.Ends.{DrainState, LaneId}
use Rattle.fj_submitter.specs.Lanes.{lanes_of}
use Rattle.fj_submitter.specs.Seats.{AreAll, HaveMet, IsSeat, SeatState}

some_inj : {A : Type 0} (x y : A) → Some x ≡ Some y → x ≡ y
some_inj x y e = cc

-- the one between two lists
between : {A : Type 0} (xs : List A) (x : A) (ys : List A) → slice_get ((xs ++ x ∷ []) ++ ys) (length xs) ≡ Some x
between [] x ys = refl
between (y ∷ xs) x ys = between xs x ys

module _ {B : Type 0} where
  abbrev entrant : SeatState B → EntrantState
  entrant s = s.entrant

  -- the ends of the last lanes have met, and of the others there are as many
  pub record Halfway (core : List (DrainState B)) (all : List (SeatState B)) (drains : List (DrainState B)) (seats : List (SeatState B)) (entrants : List EntrantState) (rests : List (List (Parcel B))) : Type 0 where
    pub taken : List (DrainState B)
    pub pushed : List (SeatState B)
    pub count : length seats ≡ length drains
    pub core_is : core ≡ drains ++ taken
    pub all_is : all ≡ seats ++ pushed
    pub entrants_are : entrants ≡ reverse (map (λ s. s.entrant) pushed)
    pub done : HaveMet taken pushed (reverse rests)
    pub seated : All IsSeat pushed

  pub begins : (lanes : List LaneId) (all : List (SeatState B)) (drains : List (DrainState B)) (entrants : List EntrantState) (rests : List (List (Parcel B))) → AreAll (length lanes) all → lanes_of drains ≡ lanes → entrants ≡ [] → rests ≡ [] → Halfway drains all drains all entrants rests
  begins lanes all drains entrants rests are same no_entrants none = record {
    taken = [];
    pushed = [];
    count = are.0 ∙ ap length (sym same) ∙ length-map drains (λ (d : DrainState B). d.lane);
    core_is = sym (append-nil drains);
    all_is = sym (append-nil all);
    entrants_are = no_entrants;
    done = subst (λ (l : List (List (Parcel B))). HaveMet [] [] (reverse l)) (sym none) tt;
    seated = All-nil IsSeat;
  }

  -- one seat and one drain fewer are as many
  fewer : (ss : List (SeatState B)) (s : SeatState B) (ds : List (DrainState B)) (d : DrainState B) → length (ss ++ s ∷ []) ≡ length (ds ++ d ∷ []) → length ss ≡ length ds
  fewer ss s ds d e = omega (arith, e, length-append ss (s ∷ []), length-append ds (d ∷ []))

  -- some are taken out at the end
  at_end : (core : List (DrainState B)) (all : List (SeatState B)) (drains drains' : List (DrainState B)) (seats seats' : List (SeatState B)) (entrants : List EntrantState) (rests : List (List (Parcel B)))
      → Halfway core all drains seats entrants rests → drains ≡ drains' → seats ≡ seats' → Halfway core all drains' seats' entrants rests
  at_end core all drains drains' seats seats' entrants rests w ds ss = subst (λ (x : List (DrainState B) × List (SeatState B)). Halfway core all x.0 x.1 entrants rests) (λ i. (ds i, ss i)) w

  -- the last seat and the last drain are of one lane, which is that of the seat's number
  pub meets : (lanes : List LaneId) (core : List (DrainState B)) (all : List (SeatState B)) (drains ds : List (DrainState B)) (d : DrainState B) (seats ss : List (SeatState B)) (s : SeatState B) (entrants : List EntrantState) (rests : List (List (Parcel B)))
      → Halfway core all drains seats entrants rests → drains ≡ ds ++ d ∷ [] → seats ≡ ss ++ s ∷ [] → AreAll (length lanes) all → lanes_of core ≡ lanes → slice_get lanes s.number ≡ Some s.feed.lane → s.feed.lane ≡ d.lane
  meets lanes core all drains ds d seats ss s entrants rests before drains_are seats_are are same named =
      let w = at_end core all drains (ds ++ d ∷ []) seats (ss ++ s ∷ []) entrants rests before drains_are seats_are in
      let seat_at : slice_get all (length ss) ≡ Some s = ap (λ (l : List (SeatState B)). slice_get l (length ss)) w.all_is ∙ between ss s w.pushed in
      let number : s.number ≡ length ds = are.1 (length ss) s seat_at ∙ fewer ss s ds d w.count in
      let drain_at : slice_get core (length ds) ≡ Some d = ap (λ (l : List (DrainState B)). slice_get l (length ds)) w.core_is ∙ between ds d w.taken in
      let lane_at : slice_get lanes (length ds) ≡ Some d.lane =
      ap (λ (l : List LaneId). slice_get l (length ds)) (sym same) ∙ slice_get-map (λ (x : DrainState B). x.lane) core (length ds) ∙ ap (option_map (λ (x : DrainState B). x.lane)) drain_at in
      some_inj s.feed.lane d.lane (sym named ∙ ap (λ (n : ℕ). slice_get lanes n) number ∙ lane_at)

  -- these have met, too
  pub steps : (core : List (DrainState B)) (all : List (SeatState B)) (drains ds : List (DrainState B)) (d : DrainState B) (seats ss : List (SeatState B)) (s : SeatState B) (entrants entrants' : List EntrantState) (rests rests' : List (List (Parcel B))) (r : List (Parcel B))
      → Halfway core all drains seats entrants rests → drains ≡ ds ++ d ∷ [] → seats ≡ ss ++ s ∷ [] → d.drained ++ r ≡ s.feed.fed → IsSeat s → entrants' ≡ entrants ++ s.entrant ∷ [] → rests' ≡ rests ++ r ∷ [] → Halfway core all ds ss entrants' rests'
  steps core all drains ds d seats ss s entrants entrants' rests rests' r before drains_are seats_are met seat entrants_more rests_more =
      let w = at_end core all drains (ds ++ d ∷ []) seats (ss ++ s ∷ []) entrants rests before drains_are seats_are in record {
        taken = d ∷ w.taken;
        pushed = s ∷ w.pushed;
        count = fewer ss s ds d w.count;
        core_is = w.core_is ∙ append_assoc ds (d ∷ []) w.taken;
        all_is = w.all_is ∙ append_assoc ss (s ∷ []) w.pushed;
        entrants_are = entrants_more ∙ ap (λ (es : List EntrantState). es ++ s.entrant ∷ []) w.entrants_are ∙ sym (reverse-append (s.entrant ∷ []) (map entrant w.pushed));
        done = subst (λ (l : List (List (Parcel B))). HaveMet (d ∷ w.taken) (s ∷ w.pushed) l) (sym (ap reverse rests_more ∙ reverse-append rests (r ∷ []))) (met, w.done);
        seated = All-cons IsSeat s w.pushed seat w.seated;
      }
