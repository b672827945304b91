-- Where nobody is of some kind.
use Rattle.std.proofs.Common.{ℕ, ◌≡◌, ◌+◌, ◌<◌, Bool, true, false, Option, Some, None, List, length, map, get_or, set, refl, sym, ap, ◌∙◌, arith, length-set}
use Rattle.std.specs.Prelude.{◌||◌, if◌then◌else◌, MatchOption}
use Rattle.std.specs.List.{AllWithin, HoldsAt}
use Rattle.std.proofs.lemmas.Bool.{or_parts}
use Rattle.std.proofs.lemmas.List.Elements.{All-from_all_within, All-map, All-set, All-weaker, AllWithin-more, at_read}
use Rattle.fj_sleep.specs.declared.sleeper.Sleeper.{Sleeper}
use Rattle.fj_sleep.specs.declared.sleeper.Sleeper.TheVariants.{Awake, Resting, Waiting, Due, Woken}
use Rattle.fj_sleep.specs.Places.{is_asleep, is_due, is_resting, is_waiting, roused_if, taken}
use Rattle.fj_sleep.specs.Sleeping.{AreNoted, IsAt, NobodyIs}
use Rattle.fj_sleep.proofs.Mapping.{map_nothing}

module _ {T : Type 0} where
  -- ---- one place

  pub asleep_from_resting : (s : Sleeper T) → is_resting s ≡ true → is_asleep s ≡ true
  asleep_from_resting s rests = ap (λ b. b || is_waiting s) rests

  pub awake_from : (s : Sleeper T) → is_resting s ≡ false → is_waiting s ≡ false → is_asleep s ≡ false
  awake_from s resting waiting = rw (resting, waiting) refl

  pub roused : (test : Sleeper T → Bool) (s : Sleeper T) → test s ≡ true → roused_if test s ≡ Due
  roused test s is = rw is refl

  pub kept : (test : Sleeper T → Bool) (s : Sleeper T) → test s ≡ false → roused_if test s ≡ s
  kept test s not = rw not refl

  pub taken_due : (s : Sleeper T) → is_due s ≡ true → taken s ≡ Woken
  taken_due Due due = refl
  taken_due Awake due = absurd cc
  taken_due Resting due = absurd cc
  taken_due (Waiting t) due = absurd cc
  taken_due Woken due = absurd cc

  pub taken_other : (s : Sleeper T) → is_due s ≡ false → taken s ≡ s
  taken_other Due due = absurd cc
  taken_other Awake due = refl
  taken_other Resting due = refl
  taken_other (Waiting t) due = refl
  taken_other Woken due = refl

  rouse_resting : (test : Sleeper T → Bool) (s : Sleeper T) → is_resting s ≡ false → is_resting (roused_if test s) ≡ false
  rouse_resting test s not = go (test s)
    where
      go : (b : Bool) → is_resting (if b then Due else s) ≡ false
      go true = refl
      go false = not

  take_resting : (s : Sleeper T) → is_resting s ≡ false → is_resting (taken s) ≡ false
  take_resting Awake not = refl
  take_resting Resting not = not
  take_resting (Waiting t) not = refl
  take_resting Due not = refl
  take_resting Woken not = refl

  take_waiting : (s : Sleeper T) → is_waiting s ≡ false → is_waiting (taken s) ≡ false
  take_waiting Awake not = refl
  take_waiting Resting not = refl
  take_waiting (Waiting t) not = not
  take_waiting Due not = refl
  take_waiting Woken not = refl

  take_due : (s : Sleeper T) → is_due (taken s) ≡ false
  take_due Awake = refl
  take_due Resting = refl
  take_due (Waiting t) = refl
  take_due Due = refl
  take_due Woken = refl

  -- ---- all places

  -- where nobody passes the test, nobody is roused by it
  pub rouses_nobody : (test : Sleeper T → Bool) (places : List (Sleeper T)) → NobodyIs test places → map (roused_if test) places ≡ places
  rouses_nobody test places none = map_nothing (roused_if test) places (All-weaker (λ s. test s ≡ false) (λ s. roused_if test s ≡ s) (kept test) places none)

  pub nobody_asleep : (places : List (Sleeper T)) → NobodyIs is_resting places → NobodyIs is_waiting places → NobodyIs is_asleep places
  nobody_asleep places resting waiting k d within = awake_from (get_or places k d) (resting k d within) (waiting k d within)

  pub nobody_rests_roused : (test : Sleeper T → Bool) (places : List (Sleeper T)) → NobodyIs is_resting places → NobodyIs is_resting (map (roused_if test) places)
  nobody_rests_roused test places none =
      All-map (λ s. is_resting s ≡ false) (roused_if test) places (All-weaker (λ s. is_resting s ≡ false) (λ s. is_resting (roused_if test s) ≡ false) (rouse_resting test) places none)

  pub nobody_rests_taken : (places : List (Sleeper T)) → NobodyIs is_resting places → NobodyIs is_resting (map taken places)
  nobody_rests_taken places none =
      All-map (λ s. is_resting s ≡ false) taken places (All-weaker (λ s. is_resting s ≡ false) (λ s. is_resting (taken s) ≡ false) take_resting places none)

  pub nobody_waits_taken : (places : List (Sleeper T)) → NobodyIs is_waiting places → NobodyIs is_waiting (map taken places)
  nobody_waits_taken places none =
      All-map (λ s. is_waiting s ≡ false) taken places (All-weaker (λ s. is_waiting s ≡ false) (λ s. is_waiting (taken s) ≡ false) take_waiting places none)

  pub nobody_due_taken : (places : List (Sleeper T)) → NobodyIs is_due (map taken places)
  nobody_due_taken places = All-map (λ s. is_due s ≡ false) taken places (λ k d within. take_due (get_or places k d))

  -- the first place that passes the test is one that does
  pub at_first : (test : Sleeper T → Bool) (places : List (Sleeper T)) (found : Option ℕ)
      → MatchOption found (AllWithin (λ s. test s ≡ false) places 0 (length places))
      (λ i. (i < length places) × HoldsAt (λ s. test s ≡ true) places i × AllWithin (λ s. test s ≡ false) places 0 i)
      → MatchOption found (NobodyIs test places) (λ p. IsAt test places p)
  at_first test places None none = All-from_all_within (λ s. test s ≡ false) places none
  at_first test places (Some p) (within, here, before) = (within, here Awake)

  -- ---- one place changes

  set_nobody : (test : Sleeper T → Bool) (places : List (Sleeper T)) (i : ℕ) (s : Sleeper T) → NobodyIs test places → test s ≡ false → NobodyIs test (set places i s)
  set_nobody test places i s none not = All-set (λ x. test x ≡ false) places i s not none

  -- its new state is noted, if it is not noted that nobody is of this kind
  pub noted_set : (places : List (Sleeper T)) (i : ℕ) (s : Sleeper T) (old new : Option ℕ) (waiting resting due waiting' resting' due' : Bool) → AreNoted places old waiting resting due
      → (new ≡ None → (old ≡ None) × (is_resting s ≡ false)) → (waiting' ≡ false → (waiting ≡ false) × (is_waiting s ≡ false))
      → (resting' ≡ false → (resting ≡ false) × (is_resting s ≡ false)) → (due' ≡ false → (due ≡ false) × (is_due s ≡ false)) → AreNoted (set places i s) new waiting' resting' due'
  noted_set places i s old new waiting resting due waiting' resting' due' noted watched waits rests is_to = record {
    few = omega (arith, length-set places i s, noted.few);
    watched = λ none. set_nobody is_resting places i s (noted.watched (watched none).0) (watched none).1;
    no_waiting = λ none. set_nobody is_waiting places i s (noted.no_waiting (waits none).0) (waits none).1;
    no_resting = λ none. set_nobody is_resting places i s (noted.no_resting (rests none).0) (rests none).1;
    no_due = λ none. set_nobody is_due places i s (noted.no_due (is_to none).0) (is_to none).1;
  }

  -- ---- as far as a loop has come

  -- one place more, at which it is noted whether somebody is of this kind
  pub noted_on : (test : Sleeper T → Bool) (places : List (Sleeper T)) (i : ℕ) (s : Sleeper T) (noted seen : Bool) → i < length places
      → (noted ≡ false → AllWithin (λ s. test s ≡ false) places 0 i) → s ≡ get_or places i s → seen ≡ test s
      → (noted || seen) ≡ false → AllWithin (λ s. test s ≡ false) places 0 (i + 1)
  noted_on test places i s noted seen within before read is none =
      let parts = or_parts noted seen none in
      AllWithin-more (λ s. test s ≡ false) places 0 i (before parts.0) (at_read places (λ s. test s ≡ false) i s within read (sym is ∙ parts.1))
