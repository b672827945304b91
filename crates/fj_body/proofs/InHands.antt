-- A task whose completion action is in a hand is kept.
use Rattle.std.proofs.Common.{ℕ, ◌≡◌, ◌≤◌, ◌<◌, not, Bool, true, false, cond, List, [], ◌∷◌, ◌++◌, map, Option, Some, None, refl, ap, sym, ◌∙◌, subst, arith, append_assoc, ⊎_elim, ◌⊎◌, inl, inr}
use Rattle.std.specs.Prelude.{if◌then◌else◌, ◌==◌, ◌||◌}
use Rattle.std.specs.List.{filter}
use Rattle.std.proofs.lemmas.Bool.{eq-eqb, eqb-true, or_cases, true≢false}
use Rattle.std.proofs.lemmas.List.{append-nil, map-append}
use Rattle.fj_rules.specs.declared.event.Event.{Event}
use Rattle.fj_rules.specs.declared.event.Event.TheVariants as event
use Rattle.fj_rules.specs.declared.event.How.{How}
use Rattle.fj_rules.specs.declared.event.How.TheVariants as how_is
use Rattle.fj_rules.specs.Bounds.{Pool}
use Rattle.fj_rules.specs.Lists.{is_in, times_in}
use Rattle.fj_rules.specs.Tasks.{tasks, is_completer, released, released_by}
use Rattle.fj_rules.specs.Climbs.{climbed, Fires, Spent}
use Rattle.fj_rules.specs.Hooks.{Hook, hooks, hooks_after, hand, completer_in, with_hook, receiver}
use Rattle.fj_rules.specs.Allowed.{Allowed, AllowedFrom}
use Rattle.fj_rules.proofs.Lists.Members.{is_in_append, times_in_cons, times_in_some}
use Rattle.fj_rules.proofs.Events.Growth.{hooks_more}
use Rattle.fj_rules.proofs.Events.Lawful.{allowed_more, is_in_with}
use Rattle.fj_rules.proofs.Events.Releasing.{released_same, released_known}
use Rattle.fj_rules.proofs.Places.KeptPlaces.{released_spent, released_arrival}
use Rattle.fj_rules.proofs.Events.Growth.{released_more}
use Rattle.fj_rules.proofs.Events.Lawful.{known_more, not_new}
use Rattle.fj_rules.proofs.Events.KindsKept.{completer_still}
use Rattle.fj_rules.proofs.Completers.Climbed.{climbed_append}
use Rattle.fj_rules.proofs.Completers.Hands.{hand_there}
use Rattle.fj_rules.specs.Hooks.{HooksApart}
use Rattle.std.specs.List.{filter_map, cons_option}
use Rattle.fj_rules.specs.Releasable.{hooked, is_hooked}
use Rattle.fj_body.specs.Stores.{NoneReleased}

-- the hooks after one event more
pub after_one : (h : List Event) (e : Event) (c : ℕ) → is_in c (hooked (h ++ e ∷ [])) ≡ true → (is_in c (hooked h) ≡ true) ⊎ ((how : How) × (e ≡ event.Fire c how))
after_one h e c there = go e (subst (λ s. is_in c (map (λ hook. hook.completer) s.in_hands) ≡ true) (hooks_more h e) there)
  where
    with_one : (d : ℕ) (w : Option ℕ) (others : List Hook) → is_in c (map (λ hook. hook.completer) (with_hook d w others)) ≡ true → (is_in c (map (λ hook. hook.completer) others) ≡ true) ⊎ (d ≡ c)
    with_one d None others at = inl at
    with_one d (Some w) others at =
        ⊎_elim (λ old. inl old) (λ new. inr (eqb-true d c (⊎_elim (λ here. here) (λ none. absurd cc) (or_cases (d == c) false new))))
        (or_cases (is_in c (map (λ (hook : Hook). hook.completer) others)) (is_in c (d ∷ []))
        (sym (ap (is_in c) (map-append (λ (hook : Hook). hook.completer) others (record { completer = d; worker = w } ∷ [])) ∙ is_in_append c (map (λ (hook : Hook). hook.completer) others) (d ∷ [])) ∙ at))

    fewer : (p : Hook → Bool) (hs : List Hook) → is_in c (map (λ hook. hook.completer) (filter p hs)) ≡ true → is_in c (map (λ hook. hook.completer) hs) ≡ true
    fewer p [] at = at
    fewer p (x ∷ hs) at = pick (p x) at (fewer p hs)
      where
        pick : (b : Bool) → is_in c (map (λ hook. hook.completer) (cond b (x ∷ filter p hs) (filter p hs))) ≡ true
            → (is_in c (map (λ hook. hook.completer) (filter p hs)) ≡ true → is_in c (map (λ hook. hook.completer) hs) ≡ true) → ((x.completer == c) || is_in c (map (λ hook. hook.completer) hs)) ≡ true
        pick true at rest = ⊎_elim (λ here. rw here refl) (λ later. rw (rest later) (or_true (x.completer == c))) (or_cases (x.completer == c) (is_in c (map (λ (hook : Hook). hook.completer) (filter p hs))) at)
          where
            or_true : (b : Bool) → (b || true) ≡ true
            or_true true = refl
            or_true false = refl
        pick false at rest = rw (rest at) (or_true (x.completer == c))
          where
            or_true : (b : Bool) → (b || true) ≡ true
            or_true true = refl
            or_true false = refl

    go : (e : Event) → is_in c (map (λ hook. hook.completer) (hooks_after (hooks h) e).in_hands) ≡ true → (is_in c (hooked h) ≡ true) ⊎ ((how : How) × (e ≡ event.Fire c how))
    go (event.Fire d how) at =
        ⊎_elim (λ old. inl old) (λ same. inr (how, ap (λ v. event.Fire v how) same)) (with_one d (receiver d (hooks h).just_ended (hooks h).last_worker) (hooks h).in_hands at)
    go (event.Hooked d) at = inl (fewer (λ hook. not (hook.completer == d)) (hooks h).in_hands at)
    go (event.Acc t o k) at = inl at
    go (event.Make t k) at = inl at
    go (event.Out t w) at = inl at
    go (event.Skip t w) at = inl at
    go (event.End t w) at = inl at
    go (event.Add d n) at = inl at
    go (event.Dec d) at = inl at
    go (event.Pass d) at = inl at
    go (event.Settle t s) at = inl at
    go event.Close at = inl at
    go event.Stop at = inl at
    go (event.Rel t) at = inl at

-- a completer that was released does not fire
fires_unreleased : (pool : Pool) (h : List Event) (c : ℕ) (how : How) → AllowedFrom pool [] h → Allowed pool h (event.Fire c how) → is_completer h c ≡ true → is_in c (released h) ≡ true → ⊥
fires_unreleased pool h c how_is.Zero so may completer there = apart (sym may ∙ released_arrival pool h c so completer there)
  where
    apart : Fires ≡ Spent → ⊥
    apart same = cc
fires_unreleased pool h c how_is.Complete so may completer there = true≢false (sym (released_spent pool h c so completer there) ∙ may.0)

-- what a known task is stays
known_same : (pool : Pool) (h es : List Event) (t : ℕ) → AllowedFrom pool [] h → AllowedFrom pool h es → is_in t (tasks h) ≡ true → is_completer (h ++ es) t ≡ is_completer h t
known_same pool h [] t so all known = ap (λ (h : List Event). is_completer h t) (append-nil h)
known_same pool h (e ∷ es) t so all known =
    ap (λ (h : List Event). is_completer h t) (sym (append_assoc h (e ∷ []) es))
    ∙ known_same pool (h ++ e ∷ []) es t (allowed_more pool [] h e so all.0) all.1 (known_more h e t known)
    ∙ completer_still h e t (not_new pool h e t so all.0 known)

one_released : (e : Event) (es : List Event) → released (e ∷ es) ≡ [] → (released_by e ≡ None) × (released es ≡ [])
unfolding released
one_released e es none = go (released_by e) refl none
  where
    go : (o : Option ℕ) → released_by e ≡ o → cons_option o (filter_map released_by es) ≡ [] → (released_by e ≡ None) × (filter_map released_by es ≡ [])
    go None is none = (is, none)
    go (Some t) is none = absurd cc

pub climbed_fire : (c : ℕ) (how : How) → climbed (event.Fire c how ∷ []) ≡ c ∷ []
unfolding climbed
climbed_fire c how = refl

pub unreleased_on : (pool : Pool) (h es : List Event) → AllowedFrom pool [] h → AllowedFrom pool h es → released es ≡ [] → ((c : ℕ) → is_in c (climbed es) ≡ true → is_completer (h ++ es) c ≡ true) → NoneReleased h → NoneReleased (h ++ es)
unreleased_on pool h [] so all none climbs unreleased = subst NoneReleased (sym (append-nil h)) unreleased
unreleased_on pool h (e ∷ es) so all none climbs unreleased =
    subst NoneReleased (append_assoc h (e ∷ []) es)
    (unreleased_on pool (h ++ e ∷ []) es (allowed_more pool [] h e so all.0) all.1 parts.1
    (λ c there. ap (λ (h : List Event). is_completer h c) (append_assoc h (e ∷ []) es) ∙ climbs c (later c there)) one)
  where
    parts : (released_by e ≡ None) × (released es ≡ [])
    parts = one_released e es none

    later : (c : ℕ) → is_in c (climbed es) ≡ true → is_in c (climbed (e ∷ es)) ≡ true
    later c there = ap (is_in c) (climbed_append (e ∷ []) es) ∙ is_in_append c (climbed (e ∷ [])) (climbed es) ∙ rw there (or_true (is_in c (climbed (e ∷ []))))
      where
        or_true : (b : Bool) → (b || true) ≡ true
        or_true true = refl
        or_true false = refl

    fires : (c : ℕ) (how : How) → e ≡ event.Fire c how → is_in c (released h) ≡ true → ⊥
    fires c how is there =
        let known = released_known pool h so c there in
        let climbs_it : is_in c (climbed (e ∷ es)) ≡ true = rw is (ap (is_in c) (climbed_append (event.Fire c how ∷ []) es) ∙ is_in_append c (climbed (event.Fire c how ∷ [])) (climbed es) ∙ rw (first c how) refl) in
        fires_unreleased pool h c how so (subst (Allowed pool h) is all.0) (sym (known_same pool h (e ∷ es) c so all known) ∙ climbs c climbs_it) there
      where
        first : (c : ℕ) (how : How) → is_in c (climbed (event.Fire c how ∷ [])) ≡ true
        first c how = ap (is_in c) (climbed_fire c how) ∙ rw (eq-eqb c c refl) refl

    one : NoneReleased (h ++ e ∷ [])
    one c at there =
        let before : is_in c (released h) ≡ true = ap (is_in c) (sym (released_same h e parts.0)) ∙ there in
        ⊎_elim (λ old. unreleased c old before) (λ new. fires c new.0 new.1 before) (after_one h e c at)

-- a task whose completion action is in no hand is released
pub unreleased_rel : (h : List Event) (t : ℕ) → is_in t (hooked h) ≡ false → NoneReleased h → NoneReleased (h ++ event.Rel t ∷ [])
unreleased_rel h t free unreleased c at there =
    ⊎_elim (λ old. ⊎_elim (unreleased c old) (λ same. true≢false (sym old ∙ ap (λ v. is_in v (hooked h)) (sym (rel_same same)) ∙ free)) (is_in_with c (released h) (released_by (event.Rel t)) (rw released_more at there)))
    (λ new. absurd (rel_fire new.0 new.1)) (after_one h (event.Rel t) c at)
  where
    rel_same : released_by (event.Rel t) ≡ Some c → t ≡ c
    rel_same is = cc

    rel_fire : (how : How) → event.Rel t ≡ event.Fire c how → ⊥
    rel_fire how is = cc

-- ---- by hands

completer_there : (w c : ℕ) (hs : List Hook) → completer_in w hs ≡ Some c → is_in c (map (λ hook. hook.completer) hs) ≡ true
completer_there w c [] is = absurd cc
completer_there w c (x ∷ hs) is = go (x.worker == w) is (completer_there w c hs)
  where
    or_true : (b : Bool) → (b || true) ≡ true
    or_true true = refl
    or_true false = refl

    go : (b : Bool) → (if b then Some x.completer else completer_in w hs) ≡ Some c → (completer_in w hs ≡ Some c → is_in c (map (λ hook. hook.completer) hs) ≡ true) → ((x.completer == c) || is_in c (map (λ hook. hook.completer) hs)) ≡ true
    go true is rest = let same : x.completer ≡ c = cc in rw (eq-eqb x.completer c same) refl
    go false is rest = rw (rest is) (or_true (x.completer == c))

pub in_hand_hooked : (h : List Event) (w c : ℕ) → hand h w ≡ Some c → is_hooked h c ≡ true
unfolding hand is_hooked
in_hand_hooked h w c is = completer_there w c (hooks h).in_hands is

-- the worker in whose hand it is, where no hand has two
worker_there : (c : ℕ) (hs : List Hook) → ((w : ℕ) → times_in w (map (λ hook. hook.worker) hs) ≤ 1) → is_in c (map (λ hook. hook.completer) hs) ≡ true → (w : ℕ) × (completer_in w hs ≡ Some c)
worker_there c [] once there = absurd cc
worker_there c (x ∷ hs) once there = go (x.completer == c) refl there (worker_there c hs (λ w. omega (arith, once w, times_in_cons w x.worker (map (λ (hook : Hook). hook.worker) hs))))
  where
    worker_listed : (w : ℕ) (ys : List Hook) → completer_in w ys ≡ Some c → is_in w (map (λ hook. hook.worker) ys) ≡ true
    worker_listed w [] is = absurd cc
    worker_listed w (y ∷ ys) is = pick (y.worker == w) is (worker_listed w ys)
      where
        pick : (b : Bool) → (if b then Some y.completer else completer_in w ys) ≡ Some c → (completer_in w ys ≡ Some c → is_in w (map (λ hook. hook.worker) ys) ≡ true) → (b || is_in w (map (λ hook. hook.worker) ys)) ≡ true
        pick true is rest = refl
        pick false is rest = rest is

    go : (b : Bool) → (x.completer == c) ≡ b → (b || is_in c (map (λ hook. hook.completer) hs)) ≡ true
        → (is_in c (map (λ hook. hook.completer) hs) ≡ true → (w : ℕ) × (completer_in w hs ≡ Some c)) → (w : ℕ) × ((if x.worker == w then Some x.completer else completer_in w hs) ≡ Some c)
    go true at there rest = (x.worker, rw (eq-eqb x.worker x.worker refl) (ap Some (eqb-true x.completer c at)))
    go false at there rest = let found = rest there in (found.0, other found.0 found.1 (x.worker == found.0) refl)
      where
        other : (v : ℕ) → completer_in v hs ≡ Some c → (b : Bool) → (x.worker == v) ≡ b → (if b then Some x.completer else completer_in v hs) ≡ Some c
        other v found false is = found
        other v found true is =
            absurd (omega (arith, once v, times_in_cons v x.worker (map (λ (hook : Hook). hook.worker) hs), ap {B = ℕ} (λ (b : Bool). cond b 1 0) is, times_in_some v (map (λ (hook : Hook). hook.worker) hs) (worker_listed v hs found)))

pub hooked_none : (pool : Pool) (h : List Event) (t : ℕ) → AllowedFrom pool [] h → HooksApart h → ((w : ℕ) → w < pool.limits.workers → hand h w ≡ Some t → ⊥) → is_hooked h t ≡ false
unfolding is_hooked hand
hooked_none pool h t so apart none = go (is_in t (hooked h)) refl
  where
    go : (b : Bool) → is_in t (hooked h) ≡ b → b ≡ false
    go false is = refl
    go true is = let there = worker_there t (hooks h).in_hands apart.workers is in absurd (none there.0 (hand_there pool h there.0 t so there.1) there.1)
