-- What the ends of the workers know of what they hold.
use Rattle.std.proofs.Common.{ℕ, ◌≡◌, ◌≢◌, ◌+◌, ◌<◌, true, false, inl, inr, List, [], ◌∷◌, ◌++◌, All, get_or, length, Option, Some, map, refl, ap, sym, ◌∙◌, subst, arith, length-set, get_or-set_same, get_or-set_other}
use Rattle.std.specs.Prelude.{◌⊎◌, ◌%◌, ◌^◌, eqb, slice_get, slice_set, option_map}
use Rattle.std.proofs.lemmas.Bool.Decides.{eqb_tells}
use Rattle.std.proofs.lemmas.List.{length-map, map-append}
use Rattle.std.proofs.lemmas.List.Elements.{All-push}
use Rattle.std.proofs.lemmas.List.FromFn.{get_or-map-range_with_len, length-map-range_with_len}
use Rattle.std.proofs.lemmas.Option.{get_or_from_slice_get, slice_get-get_or, slice_get-map, slice_get_within}
use Rattle.atomic_table.specs.Seated.{TableId}
use Rattle.fj_agreement.specs.Ends.{EndState}
use Rattle.fj_rules.specs.declared.mode.Mode.{Mode}
use Rattle.fj_rules.specs.Bounds.{Bounds}
use Rattle.fj_rules.specs.Pasts.{Past, fresh}
use Rattle.fj_rules.specs.Stacks.{stack as held}
use Rattle.fj_rules.specs.Hooks.{hand as hook_of, hooks}
use Rattle.fj_slots.specs.Hands.{HandState, new_hand}
use Rattle.fj_body.specs.Fitting.{Fits}
use Rattle.fj_calls.specs.Cores.{first_hands}
use Rattle.fj_calls.specs.Hands.{KeepsHand}
use Rattle.fj_parts.specs.declared.holding.Holding.{Holding}
use Rattle.fj_parts.specs.Holdings.{AreKept, AreTied, HaveEnds, IsTied, TiedState, hands_of, holding_in, holding_of, nothing, pairs_of}
use Rattle.fj_guarded.specs.Keeping.{KeepsHands, KeepsOthers}

-- ---- what the ends know

holding_kept : (w : ℕ) (old new : Past) → KeepsHand w old new → holding_in new w ≡ holding_in old w
holding_kept w old new keeps = (λ i. record { stack = keeps.bodies i; hook = keeps.hook i })

-- what is in the same option is the same
some_same : {A : Type 0} (a b : A) → Some a ≡ Some b → a ≡ b
some_same a b e = cc

-- a worker has a place
pub place_within : (pairs : List TableId) (past : Past) (ends : List (EndState Holding)) (w : ℕ) (pair : TableId) → AreKept pairs past ends → slice_get pairs w ≡ Some pair → w < length ends
place_within pairs past ends w pair are tied = subst (λ n. w < n) (are.as_many ∙ sym are.all) (slice_get_within pairs w pair tied)

-- where the ends meet the hand fits
ends_fit : {B : Type 0} (pairs : List TableId) (past : Past) (ends : List (EndState Holding)) (hand : HandState B) (own kept : EndState Holding) → AreKept pairs past ends
    → slice_get pairs hand.worker ≡ Some own.pair → own.value ≡ holding_of hand → slice_get ends hand.worker ≡ Some kept → kept.value ≡ own.value → Fits past hand
ends_fit pairs past ends hand own kept are tied knows at same =
    let both : holding_of hand ≡ holding_in past hand.worker = sym knows ∙ sym same ∙ (are.each hand.worker kept at).1 in record {
      there = subst (λ n. hand.worker < n) are.as_many (slice_get_within pairs hand.worker own.pair tied);
      bodies = ap (λ (h : Holding). h.stack) both;
      hook = ap (λ (h : Holding). h.hook) both;
    }

-- the end at the place of a worker
end_at : (pairs : List TableId) (past : Past) (ends : List (EndState Holding)) (w place : ℕ) (pair : TableId) (end : EndState Holding) → AreKept pairs past ends → place ≡ w
    → slice_get pairs w ≡ Some pair → end ≡ get_or ends place end → slice_get ends w ≡ Some end
end_at pairs past ends w place pair end are same tied value =
    slice_get-get_or ends w end (place_within pairs past ends w pair are tied) ∙ ap (λ e. Some e) (ap (λ v. get_or ends v end) (sym same) ∙ sym value)

-- both ends of a worker are of one pair
pub same_pair : (pairs : List TableId) (past : Past) (ends : List (EndState Holding)) (w place : ℕ) (pair : TableId) (end : EndState Holding) → AreKept pairs past ends → place ≡ w
    → slice_get pairs w ≡ Some pair → end ≡ get_or ends place end → end.pair ≡ pair
same_pair pairs past ends w place pair end are same tied value = some_same end.pair pair (sym (are.each w end (end_at pairs past ends w place pair end are same tied value)).0 ∙ tied)

-- where they meet the hand fits
pub met_fits : {B : Type 0} (pairs : List TableId) (past : Past) (ends : List (EndState Holding)) (hand : HandState B) (place : ℕ) (own end : EndState Holding) → AreKept pairs past ends → place ≡ hand.worker
    → slice_get pairs hand.worker ≡ Some own.pair → own.value ≡ holding_of hand → end ≡ get_or ends place end → end.value ≡ own.value → Fits past hand
met_fits pairs past ends hand place own end are same tied knows value met =
    ends_fit pairs past ends hand own end are tied knows (end_at pairs past ends hand.worker place own.pair end are same tied value) met

-- a hand that fits holds what the history says
pub fits_holding : {B : Type 0} (past : Past) (hand : HandState B) (w : ℕ) → Fits past hand → hand.worker ≡ w → holding_of hand ≡ holding_in past w
fits_holding past hand w fits same = (λ i. record { stack = fits.bodies i; hook = fits.hook i }) ∙ ap (holding_in past) same

-- nothing has changed of what workers hold
pub kept_still : (pairs : List TableId) (old new : Past) (ends : List (EndState Holding)) → AreKept pairs old ends → KeepsHands old new → AreKept pairs new ends
kept_still pairs old new ends are keeps = record {
  all = are.all ∙ sym (ap (λ pool. pool.limits.workers) keeps.pool);
  as_many = are.as_many ∙ sym (ap (λ pool. pool.limits.workers) keeps.pool);
  each = λ w end at. let each = are.each w end at in (each.0, each.1 ∙ sym (holding_kept w old new (keeps.hands w)));
}

-- the end of one worker knows what it holds now, and nothing has changed of what the others hold
set_after : (pairs : List TableId) (old new : Past) (ends : List (EndState Holding)) (w : ℕ) (kept kept' : EndState Holding) → AreKept pairs old ends → slice_get ends w ≡ Some kept
    → kept'.pair ≡ kept.pair → kept'.value ≡ holding_in new w → KeepsOthers w old new → AreKept pairs new (slice_set ends w kept')
set_after pairs old new ends w kept kept' are at pair knows others = record {
  all = length-set ends w kept' ∙ are.all ∙ sym (ap (λ pool. pool.limits.workers) others.pool);
  as_many = are.as_many ∙ sym (ap (λ pool. pool.limits.workers) others.pool);
  each = each;
}
  where
    within : w < length ends
    within = slice_get_within ends w kept at

    each : (v : ℕ) (end : EndState Holding) → slice_get (slice_set ends w kept') v ≡ Some end → (slice_get pairs v ≡ Some end.pair) × (end.value ≡ holding_in new v)
    each v end is = go (eqb_tells v w)
      where
        found : get_or (slice_set ends w kept') v end ≡ end
        found = get_or_from_slice_get (slice_set ends w kept') v end end is

        there : v < length ends
        there = subst (λ n. v < n) (length-set ends w kept') (slice_get_within (slice_set ends w kept') v end is)

        go : ((eqb v w ≡ true) × (v ≡ w)) ⊎ ((eqb v w ≡ false) × (v ≢ w)) → (slice_get pairs v ≡ Some end.pair) × (end.value ≡ holding_in new v)
        go (inl same) =
            let this : end ≡ kept' = sym found ∙ ap (λ u. get_or (slice_set ends w kept') u end) same.1 ∙ get_or-set_same ends w kept' end within in (
              ap (λ u. slice_get pairs u) same.1 ∙ (are.each w kept at).0 ∙ ap (λ p. Some p) (sym pair) ∙ ap (λ (e : EndState Holding). Some e.pair) (sym this),
              ap (λ (e : EndState Holding). e.value) this ∙ knows ∙ ap (holding_in new) (sym same.1),
            )
        go (inr other) =
            let before : slice_get ends v ≡ Some end = slice_get-get_or ends v end there ∙ ap (λ e. Some e) (sym (get_or-set_other ends w v kept' end other.1) ∙ found) in
            let each = are.each v end before in
            (each.0, each.1 ∙ sym (holding_kept v old new (others.hands v other.1)))

-- the same of the end at the place of the worker
pub kept_after : (pairs : List TableId) (old new : Past) (ends : List (EndState Holding)) (w place : ℕ) (pair : TableId) (end end' : EndState Holding) → AreKept pairs old ends → place ≡ w
    → slice_get pairs w ≡ Some pair → end ≡ get_or ends place end → end'.pair ≡ end.pair → end'.value ≡ holding_in new w → KeepsOthers w old new → AreKept pairs new (slice_set ends place end')
kept_after pairs old new ends w place pair end end' are same tied value pair_is knows others =
    subst (λ v. AreKept pairs new (slice_set ends v end')) (sym same) (set_after pairs old new ends w end end' are (end_at pairs old ends w place pair end are same tied value) pair_is knows others)

-- ---- what an iterator yields

-- what holds of all holds of the one that is yielded
pub at_turn : {A : Type 0} (P : A → Type 0) (xs : List A) (k : ℕ) (x : A) → All P xs → (k < length xs) × (x ≡ get_or xs k x) → P x
at_turn P xs k x all t = subst P (sym t.1) (all k x t.0)

pub same_items : {A : Type 0} (xs : List A) → map (λ x. x) xs ≡ xs
same_items [] = refl
same_items (x ∷ xs) = ap (λ ys. x ∷ ys) (same_items xs)

-- ---- at first

-- before anything has happened no worker holds anything
holds_nothing : (past : Past) (w : ℕ) → past.events ≡ [] → holding_in past w ≡ nothing
unfolding held hook_of hooks
holds_nothing past w none = (λ i. record { stack = held (none i) w; hook = hook_of (none i) w })

module _ {B : Type 0} where
  -- the first hands hold nothing
  pub first_nothing : (workers start : ℕ) → All (λ h. holding_of h ≡ nothing) (first_hands {B = B} workers start)
  first_nothing workers start = λ k d within.
      ap (λ (h : HandState B). holding_of h)
      (get_or-map-range_with_len (λ w. new_hand {B = B} w ((start + w) % 2 ^ 32)) 0 workers k k d (subst (λ n. k < n) (length-map-range_with_len (λ w. new_hand {B = B} w ((start + w) % 2 ^ 32)) 0 workers) within) (omega arith))

  -- hands that were tied one by one have their ends
  pub tied_have_ends : (mode : Mode) (limits : Bounds) (start : ℕ) (past : Past) (hands : List (HandState B)) (tied : List (TiedState B)) (ends : List (EndState Holding)) → past ≡ fresh mode limits
      → hands ≡ first_hands limits.workers start → AreTied hands tied ends → HaveEnds past tied ends
  tied_have_ends mode limits start past hands tied ends new first are = record { kept = kept; each = each }
    where
      workers : past.pool.limits.workers ≡ limits.workers
      workers = ap (λ (p : Past). p.pool.limits.workers) new

      many : length tied ≡ limits.workers
      many = sym (length-map tied (λ (t : TiedState B). t.hand)) ∙ ap (λ (hs : List (HandState B)). length hs) (are.hands_are ∙ first)
          ∙ length-map-range_with_len (λ w. new_hand {B = B} w ((start + w) % 2 ^ 32)) 0 limits.workers

      as_many : length (pairs_of tied) ≡ limits.workers
      as_many = length-map tied (λ (t : TiedState B). t.pair) ∙ many

      all : length ends ≡ limits.workers
      all = sym (length-map ends (λ (e : EndState Holding). e.pair)) ∙ ap (λ (ps : List TableId). length ps) are.pairs_are ∙ as_many

      kept : AreKept (pairs_of tied) past ends
      kept = record {
        all = all ∙ sym workers;
        as_many = as_many ∙ sym workers;
        each = λ w end at. (
          ap (λ (ps : List TableId). slice_get ps w) (sym are.pairs_are) ∙ slice_get-map (λ (e : EndState Holding). e.pair) ends w ∙ ap (λ (o : Option (EndState Holding)). option_map (λ e. e.pair) o) at,
          subst (λ (e : EndState Holding). e.value ≡ nothing) (get_or_from_slice_get ends w end end at) (are.new w end (slice_get_within ends w end at))
              ∙ sym (holds_nothing past w (ap (λ (p : Past). p.events) new)),
        );
      }

      each : All (λ t. IsTied (pairs_of tied) t) tied
      each = λ k d within.
          let t : TiedState B = get_or tied k d in
          let at : slice_get tied k ≡ Some t = slice_get-get_or tied k d within in
          let hand_at : slice_get (hands_of tied) k ≡ Some t.hand = slice_get-map (λ (t : TiedState B). t.hand) tied k ∙ ap (λ (o : Option (TiedState B)). option_map (λ t. t.hand) o) at in
          let hand_is : t.hand ≡ new_hand k ((start + k) % 2 ^ 32) =
          sym (get_or_from_slice_get (hands_of tied) k t.hand t.hand hand_at) ∙ ap (λ (hs : List (HandState B)). get_or hs k t.hand) (are.hands_are ∙ first)
          ∙ get_or-map-range_with_len (λ w. new_hand {B = B} w ((start + w) % 2 ^ 32)) 0 limits.workers k k t.hand (subst (λ n. k < n) many within) (omega arith) in
          ap (λ w. slice_get (pairs_of tied) w) (ap (λ (h : HandState B). h.worker) hand_is) ∙ slice_get-map (λ (t : TiedState B). t.pair) tied k
          ∙ ap (λ (o : Option (TiedState B)). option_map (λ t. t.pair) o) at

  -- no hands
  pub none_tied : (tied : List (TiedState B)) (ends : List (EndState Holding)) → tied ≡ [] → ends ≡ [] → AreTied [] tied ends
  none_tied tied ends no_tied no_ends = rw (no_tied, no_ends) (record { hands_are = refl; pairs_are = refl; new = λ k d low. absurd (omega (arith, low)) })

  -- one hand more
  pub one_tied : (hands : List (HandState B)) (tied tied' : List (TiedState B)) (ends ends' : List (EndState Holding)) (t : TiedState B) (end : EndState Holding) → AreTied hands tied ends
      → tied' ≡ tied ++ t ∷ [] → ends' ≡ ends ++ end ∷ [] → end.pair ≡ t.pair → end.value ≡ nothing → AreTied (hands ++ t.hand ∷ []) tied' ends'
  one_tied hands tied tied' ends ends' t end are more_tied more_ends pair new = rw (more_tied, more_ends) (record {
    hands_are = map-append (λ (t : TiedState B). t.hand) tied (t ∷ []) ∙ (λ i. are.hands_are i ++ t.hand ∷ []);
    pairs_are = map-append (λ (e : EndState Holding). e.pair) ends (end ∷ []) ∙ (λ i. are.pairs_are i ++ pair i ∷ []) ∙ sym (map-append (λ (t : TiedState B). t.pair) tied (t ∷ []));
    new = All-push (λ (e : EndState Holding). e.value ≡ nothing) ends end are.new new;
  })
