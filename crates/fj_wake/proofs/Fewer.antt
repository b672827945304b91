-- Who waits after a call waited before.
use Rattle.std.proofs.Common.{ℕ, ◌≡◌, ◌≢◌, ◌<◌, ◌≤◌, Bool, true, false, List, length, map, get_or, set, Option, Some, None, refl, sym, ap, ◌∙◌, subst, arith, ⊎_elim, inl, inr, get_or-set_same, get_or-set_other}
use Rattle.std.specs.Prelude.{◌⊎◌, if◌then◌else◌, IfNone, OnSome, replicate, unwrap_or}
use Rattle.std.proofs.lemmas.Bool.{cases_eq, cases_lt}
use Rattle.std.proofs.lemmas.List.{set_past, get_or_past, get_or-map, get_or-replicate, length-map, length-replicate}
use Rattle.fj_sleep.specs.declared.sleeper.Sleeper.{Sleeper}
use Rattle.fj_sleep.specs.declared.sleeper.Sleeper.TheVariants.{Awake, Resting, Waiting, Due, Woken}
use Rattle.fj_sleep.specs.declared.wanted.Wanted.TheVariants.{One}
use Rattle.fj_sleep.specs.Places.{aim, is_asleep, roused_if, taken}
use Rattle.fj_sleep.specs.Sleeping.{SleepState}
use Rattle.fj_wake.specs.declared.waits.Waits.{Waits}
use Rattle.fj_wake.specs.Waiting.{AllWaitFor, FewerWait, NobodyWaits, WaitBelow, WaitForNothingNew, WaitOnlyFor}

module _ {T : Type 0} where
  -- ---- one place

  -- at this place there is something else now
  pub at_set : (places : List (Sleeper T)) (i p : ℕ) (s : Sleeper T) (t : T) → aim (get_or (set places i s) p Awake) ≡ Some t → ((p ≡ i) × (aim s ≡ Some t)) ⊎ (aim (get_or places p Awake) ≡ Some t)
  at_set places i p s t is = ⊎_elim here other (cases_eq p i)
    where
      other : p ≢ i → ((p ≡ i) × (aim s ≡ Some t)) ⊎ (aim (get_or places p Awake) ≡ Some t)
      other apart = inr (ap aim (sym (get_or-set_other places i p s Awake apart)) ∙ is)

      here : p ≡ i → ((p ≡ i) × (aim s ≡ Some t)) ⊎ (aim (get_or places p Awake) ≡ Some t)
      here same = ⊎_elim within beyond (cases_lt i (length places))
        where
          within : i < length places → ((p ≡ i) × (aim s ≡ Some t)) ⊎ (aim (get_or places p Awake) ≡ Some t)
          within there = inl (same, ap aim (sym (get_or-set_same places i s Awake there)) ∙ ap (λ q. aim (get_or (set places i s) q Awake)) (sym same) ∙ is)

          beyond : length places ≤ i → ((p ≡ i) × (aim s ≡ Some t)) ⊎ (aim (get_or places p Awake) ≡ Some t)
          beyond past = inr (ap (λ ps. aim (get_or ps p Awake)) (sym (set_past places i s past)) ∙ is)

  pub fewer_same : (old new : List (Sleeper T)) → new ≡ old → FewerWait old new
  fewer_same old new same p t is = ap (λ ps. aim (get_or ps p Awake)) (sym same) ∙ is

  -- each place is changed so that nobody waits there who did not before
  pub fewer_map : (f : Sleeper T → Sleeper T) (places : List (Sleeper T)) → ((s : Sleeper T) (t : T) → aim (f s) ≡ Some t → aim s ≡ Some t) → f Awake ≡ Awake → FewerWait places (map f places)
  fewer_map f places keeps awake p t is = ⊎_elim within beyond (cases_lt p (length places))
    where
      within : p < length places → aim (get_or places p Awake) ≡ Some t
      within there = keeps (get_or places p Awake) t (ap aim (sym (get_or-map f places p Awake Awake there)) ∙ is)

      beyond : length places ≤ p → aim (get_or places p Awake) ≡ Some t
      beyond past =
          let none : None ≡ Some t = ap aim (sym (get_or_past (map f places) p Awake (omega (arith, past, length-map places f)))) ∙ is in absurd cc

  -- ---- what each call does at a place

  pub roused_keeps : (test : Sleeper T → Bool) (s : Sleeper T) (t : T) → aim (roused_if test s) ≡ Some t → aim s ≡ Some t
  roused_keeps test s t is = go (test s) is
    where
      go : (b : Bool) → aim (if b then Due else s) ≡ Some t → aim s ≡ Some t
      go true is = absurd cc
      go false is = is

  pub taken_keeps : (s : Sleeper T) (t : T) → aim (taken s) ≡ Some t → aim s ≡ Some t
  taken_keeps Awake t is = is
  taken_keeps Resting t is = is
  taken_keeps (Waiting u) t is = is
  taken_keeps Due t is = absurd cc
  taken_keeps Woken t is = is

  pub fewer_roused : (test : Sleeper T → Bool) (places : List (Sleeper T)) → test Awake ≡ false → FewerWait places (map (roused_if test) places)
  fewer_roused test places awake = fewer_map (roused_if test) places (roused_keeps test) (rw awake refl)

  pub fewer_taken : (places : List (Sleeper T)) → FewerWait places (map taken places)
  fewer_taken places = fewer_map taken places taken_keeps refl

  -- who sleeps at a place is to be woken: nobody waits there any more
  pub roused_none : (s : Sleeper T) → aim (roused_if is_asleep s) ≡ None
  roused_none Awake = refl
  roused_none Resting = refl
  roused_none (Waiting u) = refl
  roused_none Due = refl
  roused_none Woken = refl

  -- where everybody who sleeps is to be woken, nobody waits
  pub nobody_roused : (places : List (Sleeper T)) (p : ℕ) (t : T) → aim (get_or (map (roused_if is_asleep) places) p Awake) ≡ Some t → ⊥
  nobody_roused places p t is = ⊎_elim within beyond (cases_lt p (length places))
    where
      within : p < length places → ⊥
      within there =
          let none : None ≡ Some t = sym (roused_none (get_or places p Awake)) ∙ ap aim (sym (get_or-map (roused_if is_asleep) places p Awake Awake there)) ∙ is in cc

      beyond : length places ≤ p → ⊥
      beyond past =
          let none : None ≡ Some t = ap aim (sym (get_or_past (map (roused_if is_asleep) places) p Awake (omega (arith, past, length-map places (roused_if is_asleep))))) ∙ is in cc

  -- those that were to be woken are woken, if there were any
  pub fewer_take : {X : Type 0} (due : Option X) (old new : SleepState T) → IfNone due (new ≡ old) → OnSome due (new ≡ record old { places = map taken old.places }) → FewerWait old.places new.places
  fewer_take None old new same woken p t is = fewer_same old.places new.places (ap (λ (s : SleepState T). s.places) same) p t is
  fewer_take (Some due) old new same woken p t is = fewer_taken old.places p t (ap (λ (s : SleepState T). aim (get_or s.places p Awake)) (sym woken) ∙ is)

  -- those of some kind are to be woken
  pub fewer_rouse : (test : Sleeper T → Bool) (old new : SleepState T) → test Awake ≡ false → new ≡ record old { places = map (roused_if test) old.places } → FewerWait old.places new.places
  fewer_rouse test old new awake is p t waits = fewer_roused test old.places awake p t (ap (λ (s : SleepState T). aim (get_or s.places p Awake)) (sym is) ∙ waits)

  -- all that sleep are
  pub nobody_left : (old new : SleepState T) (p : ℕ) (t : T) → new ≡ record old { places = map (roused_if is_asleep) old.places } → aim (get_or new.places p Awake) ≡ Some t → ⊥
  nobody_left old new p t is waits = nobody_roused old.places p t (ap (λ (s : SleepState T). aim (get_or s.places p Awake)) (sym is) ∙ waits)

  -- where each place so far passes, and there is none further, all do
  pub all_of : (test : T → Bool) (places : List (Sleeper T)) (n : ℕ) → length places ≤ n → ((p : ℕ) → p < n → (t : T) → aim (get_or places p Awake) ≡ Some t → test t ≡ true) → AllWaitFor test places
  all_of test places n all so_far p t is = ⊎_elim within beyond (cases_lt p (length places))
    where
      within : p < length places → test t ≡ true
      within there = so_far p (omega (arith, there, all)) t is

      beyond : length places ≤ p → test t ≡ true
      beyond past = let no : None ≡ Some t = ap aim (sym (get_or_past places p Awake past)) ∙ is in absurd cc

  -- nobody waits at new places
  pub nobody_new : (state : SleepState T) (n p : ℕ) (t : T) → state ≡ record { places = replicate n Awake; lookout = None } → aim (get_or state.places p Awake) ≡ Some t → ⊥
  nobody_new state n p t new is = ⊎_elim within beyond (cases_lt p n)
    where
      here : Sleeper T
      here = Awake

      at : aim (get_or (replicate n Awake) p Awake) ≡ Some t
      at = ap (λ (s : SleepState T). aim (get_or s.places p Awake)) (sym new) ∙ is

      within : p < n → ⊥
      within there = let no : None ≡ Some t = ap aim (sym (get_or-replicate n p Awake Awake there)) ∙ at in cc

      beyond : n ≤ p → ⊥
      beyond past = let no : None ≡ Some t = ap aim (sym (get_or_past (replicate n Awake) p Awake (omega (arith, past, length-replicate n here)))) ∙ at in cc

-- ---- everybody

-- nobody waits for anything new, where nobody does at any place nor without a seat
pub nothing_new : (old new : Waits) → FewerWait old.workers.places new.workers.places → FewerWait old.seats.places new.seats.places → new.seats_used ≡ old.seats_used
    → ((k : ℕ) → new.crowd ≡ One k → old.crowd ≡ One k) → WaitForNothingNew old new
nothing_new old new workers seats used crowd joinable awaited only = record {
  workers = λ p t is. only.workers p t (workers p t is);
  seats = λ p k is. only.seats p k (seats p k is);
  used = λ p k is. subst (λ n. p < n) (sym used) (only.used p k (seats p k is));
  crowd = λ k is. only.crowd k (crowd k is);
}

-- nobody waits at all
pub nobody : (waits : Waits) → ((p t : ℕ) → aim (get_or waits.workers.places p Awake) ≡ Some t → ⊥) → ((p k : ℕ) → aim (get_or waits.seats.places p Awake) ≡ Some k → ⊥)
    → ((k : ℕ) → waits.crowd ≡ One k → ⊥) → NobodyWaits waits
nobody waits workers seats crowd joinable awaited = record {
  workers = λ p t is. absurd (workers p t is);
  seats = λ p k is. absurd (seats p k is);
  used = λ p k is. absurd (seats p k is);
  crowd = λ k is. absurd (crowd k is);
}

-- a caller awaits an outcome at a seat from now on
pub seated : (old : Waits) (seats : SleepState ℕ) (place k used : ℕ) → seats ≡ record old.seats { places = set old.seats.places place (Waiting k) } → old.seats_used ≤ used → place < used
    → (joinable awaited : ℕ → Bool) → WaitOnlyFor joinable awaited old → awaited k ≡ true → WaitOnlyFor joinable awaited (record old { seats = seats; seats_used = used })
seated old seats place k used is wide there joinable awaited only wanted = record {
  workers = only.workers;
  seats = λ p u waits. ⊎_elim (λ (here : (p ≡ place) × (Some k ≡ Some u)). ap awaited (same here.1) ∙ wanted) (only.seats p u) (at p u waits);
  used = λ p u waits. ⊎_elim (λ (here : (p ≡ place) × (Some k ≡ Some u)). omega (arith, here.0, there)) (λ was. omega (arith, only.used p u was, wide)) (at p u waits);
  crowd = only.crowd;
}
  where
    at : (p u : ℕ) → aim (get_or seats.places p Awake) ≡ Some u → ((p ≡ place) × (Some k ≡ Some u)) ⊎ (aim (get_or old.seats.places p Awake) ≡ Some u)
    at p u waits = at_set old.seats.places place p (Waiting k) u (ap (λ (s : SleepState ℕ). aim (get_or s.places p Awake)) (sym is) ∙ waits)

    same : {u : ℕ} → Some k ≡ Some u → u ≡ k
    same e = sym (ap (λ o. unwrap_or o 0) e)

-- ---- looking everything up

pub looked : (joinable awaited : ℕ → Bool) (one two all : Waits) → AllWaitFor joinable one.workers.places → two ≡ record one { seats = two.seats } → AllWaitFor awaited two.seats.places
    → WaitBelow one.seats_used two.seats.places → all ≡ record two { crowd = all.crowd; crowd_due = all.crowd_due } → ((k : ℕ) → all.crowd ≡ One k → awaited k ≡ true) → WaitOnlyFor joinable awaited all
looked joinable awaited one two all workers second seats used third crowd = record {
  workers = λ p t is. workers p t (ap (λ (w : Waits). aim (get_or w.workers.places p Awake)) (sym second) ∙ ap (λ (w : Waits). aim (get_or w.workers.places p Awake)) (sym third) ∙ is);
  seats = λ p k is. seats p k (ap (λ (w : Waits). aim (get_or w.seats.places p Awake)) (sym third) ∙ is);
  used = λ p k is. subst (λ n. p < n) (sym (ap (λ (w : Waits). w.seats_used) third ∙ ap (λ (w : Waits). w.seats_used) second)) (used p k (ap (λ (w : Waits). aim (get_or w.seats.places p Awake)) (sym third) ∙ is));
  crowd = crowd;
}

-- the seats stay those that were used
pub used_still : (old new : Waits) → WaitForNothingNew old new → WaitBelow old.seats_used old.seats.places → WaitBelow new.seats_used new.seats.places
used_still old new nothing used = (nothing (λ t. true) (λ k. true) (record { workers = λ p t is. refl; seats = λ p k is. refl; used = used; crowd = λ k is. refl })).used
