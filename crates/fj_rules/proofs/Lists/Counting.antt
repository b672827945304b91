-- How many tasks stand in the lists of a history.
use Rattle.std.proofs.Common.{zero, suc, ℕ, ◌≡◌, ◌≢◌, ◌+◌, ◌-◌, ◌≤◌, ◌<◌, Bool, true, false, cond, not, List, [], ◌∷◌, length, take, drop, Some, refl, ap, sym, ◌∙◌, arith, subst}
use Rattle.std.specs.Prelude.{nat_lt}
use Rattle.std.proofs.lemmas.Bool.{eq-eqb, ltb-true, true≢false, not-true, and_parts}
use Rattle.fj_rules.specs.declared.event.Event.{Event}
use Rattle.fj_rules.specs.Bounds.{Pool}
use Rattle.fj_rules.specs.Lists.{is_in, without, times_in, first_of, last_of}
use Rattle.fj_rules.specs.Tasks.{accepted}
use Rattle.fj_rules.specs.Allowed.{AllowedFrom}
use Rattle.fj_rules.specs.Headline.{all_places, IsInOnePlace}
use Rattle.fj_rules.proofs.Lists.Members.{times_in_cons, times_in_some, times_in_filter, is_in_filter, first_then, Once, length_without}
use Rattle.fj_rules.proofs.Events.Ends.{last_then, without_last}
use Rattle.fj_rules.proofs.Places.OnePlace.{one_place, never}
use Rattle.fj_rules.proofs.Events.Queues.{without_absent}

-- a list of different numbers below n has at most n members
few_once : (n : ℕ) (ts : List ℕ) → Once ts → ((t : ℕ) → is_in t ts ≡ true → t < n) → length ts ≤ n
few_once zero [] once below = omega arith
few_once zero (t ∷ ts) once below = let none = below t (rw (eq-eqb t t refl) refl) in absurd (omega arith)
few_once (suc n) ts once below = omega (arith, length_without n ts, once n, few_once n (without ts (n ∷ [])) rest_once rest_below)
  where
    rest_once : Once (without ts (n ∷ []))
    rest_once t = rw times_in_filter (go (not (is_in t (n ∷ []))))
      where
        go : (b : Bool) → cond b (times_in t ts) 0 ≤ 1
        go true = once t
        go false = omega arith

    rest_below : (t : ℕ) → is_in t (without ts (n ∷ [])) ≡ true → t < n
    rest_below t there =
        let parts = and_parts (is_in t ts) (not (is_in t (n ∷ []))) (sym (is_in_filter (λ u. not (is_in u (n ∷ []))) t ts) ∙ there) in
        let apart : n ≢ t = λ same. true≢false (sym (rw (eq-eqb n t same) refl) ∙ not-true (is_in t (n ∷ [])) parts.1) in
        omega (arith, below t parts.0, apart)

-- in all places together there are no more tasks than were accepted
pub few_placed : (pool : Pool) (h : List Event) → AllowedFrom pool [] h → length (all_places pool.limits h) ≤ accepted h
few_placed pool h so = few_once (accepted h) (all_places pool.limits h) once below
  where
    placed : IsInOnePlace pool.limits h
    placed = one_place pool h so

    once : Once (all_places pool.limits h)
    once t = rw placed (go (nat_lt t (accepted h)))
      where
        go : (b : Bool) → cond b 1 0 ≤ 1
        go true = omega arith
        go false = omega arith

    below : (t : ℕ) → is_in t (all_places pool.limits h) ≡ true → t < accepted h
    below t there = go (nat_lt t (accepted h)) refl
      where
        go : (b : Bool) → nat_lt t (accepted h) ≡ b → t < accepted h
        go true is = ltb-true t (accepted h) is
        go false is =
            let none : times_in t (all_places pool.limits h) ≡ 0 = placed t ∙ rw is refl in
            absurd (omega (arith, none, times_in_some t (all_places pool.limits h) there))

-- ---- the first and the last of a list that has each member once

pub without_first_one : (t : ℕ) (ts : List ℕ) → Once ts → first_of ts ≡ Some t → without ts (t ∷ []) ≡ drop 1 ts
without_first_one t ts once first =
    let rest = first_then t ts first in
    ap (λ us. without us (t ∷ [])) rest.1 ∙ go rest.0 (λ u. rw rest.1 at (once u)) ∙ ap (drop 1) (sym rest.1)
  where
    go : (us : List ℕ) → Once (t ∷ us) → without (t ∷ us) (t ∷ []) ≡ us
    go us once =
        let absent : is_in t us ≡ false = never (is_in t us) (λ there.
        let both : times_in t (t ∷ us) ≡ 1 + times_in t us = times_in_cons t t us ∙ rw (eq-eqb t t refl) refl in
        omega (arith, both, once t, times_in_some t us there)) in
        rw (eq-eqb t t refl) (without_absent us t absent)

pub without_last_one : (t : ℕ) (ts : List ℕ) → Once ts → last_of ts ≡ Some t → without ts (t ∷ []) ≡ take (length ts - 1) ts
without_last_one t ts once last =
    let split = last_then t ts last in
    ap (λ us. without us (t ∷ [])) split ∙ without_last (take (length ts - 1) ts) t (subst Once split once)
