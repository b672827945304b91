-- At which completers arrivals were counted, fired or passed, and whose hook is in whose hand.
use Rattle.std.proofs.Common.{ℕ, ◌≡◌, Bool, true, false, cond, not, List, [], ◌∷◌, ◌++◌, map, Option, Some, None, refl, ap, inl, inr, ⊎_elim, ◌⊎◌, append_assoc}
use Rattle.std.specs.Prelude.{◌==◌, if◌then◌else◌}
use Rattle.std.specs.List.{filter, cons_option}
use Rattle.std.proofs.lemmas.List.{append-nil}
use Rattle.std.proofs.lemmas.List.Elements.{filter_map-append}
use Rattle.std.proofs.lemmas.Bool.{eqb-true, eq-eqb, or_cases, or_right}
use Rattle.fj_rules.specs.declared.event.Event.{Event}
use Rattle.fj_rules.specs.declared.event.Event.TheVariants.{Fire, Hooked}
use Rattle.fj_rules.specs.Bounds.{Pool}
use Rattle.fj_rules.specs.Lists.{is_in}
use Rattle.fj_rules.specs.Tasks.{is_completer}
use Rattle.fj_rules.specs.Hooks.{Hook, Hooks, hooks, hooks_after, hand, completer_in, with_hook, receiver}
use Rattle.fj_rules.specs.Climbs.{climbed_by, climbed, ClimbsCompleters}
use Rattle.fj_rules.specs.Allowed.{Allowed, AllowedFrom}
use Rattle.fj_rules.proofs.Lists.Members.{is_in_append}
use Rattle.fj_rules.proofs.Events.Growth.{with, filter_map_more, hooks_more}
use Rattle.fj_rules.proofs.Events.Lawful.{by_events}
use Rattle.fj_rules.proofs.Events.KindsKept.{completer_stays}

pub climbed_more : (h : List Event) (e : Event) → climbed (h ++ e ∷ []) ≡ with (climbed h) (climbed_by e)
unfolding climbed
climbed_more h e = filter_map_more climbed_by h e

pub climbed_append : (xs ys : List Event) → climbed (xs ++ ys) ≡ climbed xs ++ climbed ys
unfolding climbed
climbed_append xs ys = filter_map-append climbed_by xs ys

-- ---- a hook in a hand was fired

abbrev completers_of : List Hook → List ℕ
completers_of hooks = map (λ hook. hook.completer) hooks

with_cases : (c d : ℕ) (w : Option ℕ) (others : List Hook) → is_in c (completers_of (with_hook d w others)) ≡ true → (is_in c (completers_of others) ≡ true) ⊎ (d ≡ c)
with_cases c d None others there = inl there
with_cases c d (Some w) others there = last others there
  where
    last : (others : List Hook) → is_in c (completers_of (others ++ record { completer = d; worker = w } ∷ [])) ≡ true → (is_in c (completers_of others) ≡ true) ⊎ (d ≡ c)
    last [] there = ⊎_elim (λ here. inr (eqb-true d c here)) (λ none. absurd cc) (or_cases (d == c) false there)
    last (hook ∷ others) there =
        ⊎_elim (λ here. inl (rw here refl))
        (λ later. ⊎_elim (λ old. inl (or_right (hook.completer == c) (is_in c (completers_of others)) old)) (λ new. inr new) (last others later))
        (or_cases (hook.completer == c) (is_in c (completers_of (others ++ record { completer = d; worker = w } ∷ []))) there)

kept_before : (c : ℕ) (p : Hook → Bool) (hooks : List Hook) → is_in c (completers_of (filter p hooks)) ≡ true → is_in c (completers_of hooks) ≡ true
kept_before c p [] there = there
kept_before c p (hook ∷ hooks) there = go (p hook) there (kept_before c p hooks)
  where
    go : (b : Bool) → is_in c (completers_of (cond b (hook ∷ filter p hooks) (filter p hooks))) ≡ true
        → (is_in c (completers_of (filter p hooks)) ≡ true → is_in c (completers_of hooks) ≡ true) → is_in c (completers_of (hook ∷ hooks)) ≡ true
    go true there rest =
        ⊎_elim (λ here. rw here refl) (λ later. or_right (hook.completer == c) (is_in c (completers_of hooks)) (rest later))
        (or_cases (hook.completer == c) (is_in c (completers_of (filter p hooks))) there)
    go false there rest = or_right (hook.completer == c) (is_in c (completers_of hooks)) (rest there)

-- a hook that is in a hand after an event was there before it, or the event fires it
hooks_gain : (s : Hooks) (e : Event) (c : ℕ) → is_in c (completers_of (hooks_after s e).in_hands) ≡ true → (is_in c (completers_of s.in_hands) ≡ true) ⊎ (climbed_by e ≡ Some c)
hooks_gain s (Fire d how) c there = ⊎_elim (λ old. inl old) (λ new. inr (ap Some new)) (with_cases c d (receiver d s.just_ended s.last_worker) s.in_hands there)
hooks_gain s (Hooked d) c there = inl (kept_before c (λ hook. not (hook.completer == d)) s.in_hands there)
hooks_gain s _ c there = inl there

abbrev AreFired : List Event → Type 0
AreFired h = (c : ℕ) → is_in c (completers_of (hooks h).in_hands) ≡ true → is_in c (climbed h) ≡ true

fired_more : (pool : Pool) (h : List Event) (e : Event) → AllowedFrom pool [] h → AreFired h → Allowed pool h e → AreFired (h ++ e ∷ [])
fired_more pool h e so fired may c there =
    rw (climbed_more, is_in_append c (climbed h) (cons_option (climbed_by e) []))
    (⊎_elim
    (λ old. rw (fired c old) refl)
    (λ new. or_right (is_in c (climbed h)) (is_in c (cons_option (climbed_by e) [])) (rw new (rw (eq-eqb c c refl) refl)))
    (hooks_gain (hooks h) e c (rw hooks_more at there)))

fired_none : AreFired []
unfolding hooks
fired_none c there = absurd cc

held_completer : (w c : ℕ) (hooks : List Hook) → completer_in w hooks ≡ Some c → is_in c (completers_of hooks) ≡ true
held_completer w c [] is = absurd cc
held_completer w c (hook ∷ others) is = go (hook.worker == w) is (held_completer w c others)
  where
    go : (b : Bool) → (if b then Some hook.completer else completer_in w others) ≡ Some c
        → (completer_in w others ≡ Some c → is_in c (completers_of others) ≡ true) → is_in c (completers_of (hook ∷ others)) ≡ true
    go true is rest = rw (eq-eqb hook.completer c cc) refl
    go false is rest = or_right (hook.completer == c) (is_in c (completers_of others)) (rest is)

-- the hook in a worker's hand was fired
pub hand_climbed : (pool : Pool) (h : List Event) (w c : ℕ) → AllowedFrom pool [] h → hand h w ≡ Some c → is_in c (climbed h) ≡ true
unfolding hand
hand_climbed pool h w c so is = by_events pool AreFired fired_none (fired_more pool) h so c (held_completer w c (hooks h).in_hands is)

-- ---- they are completers

pub completer_stays_all : (h later : List Event) (t : ℕ) → is_completer h t ≡ true → is_completer (h ++ later) t ≡ true
completer_stays_all h [] t completer = rw append-nil completer
completer_stays_all h (e ∷ later) t completer = rw append_assoc at (completer_stays_all (h ++ e ∷ []) later t (completer_stays h e t completer))

pub climbs_more : (h events : List Event) → ClimbsCompleters h → ((c : ℕ) → is_in c (climbed events) ≡ true → is_completer h c ≡ true) → ClimbsCompleters (h ++ events)
climbs_more h events old new c there =
    completer_stays_all h events c (⊎_elim (old c) (new c) (or_cases (is_in c (climbed h)) (is_in c (climbed events)) (rw (climbed_append h events, is_in_append c (climbed h) (climbed events)) at there)))

pub climbs_none : ClimbsCompleters []
unfolding climbed
climbs_none c there = absurd cc
