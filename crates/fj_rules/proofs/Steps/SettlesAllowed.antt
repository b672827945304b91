-- The events of Cancel, of Fault and of End Fail are allowed: each settles a task that is undone.
use Rattle.std.proofs.Common.{ℕ, ◌≡◌, ◌+◌, ◌≤◌, Bool, true, false, map, List, [], ◌∷◌, ◌++◌, Option, Some, None, refl, ap, sym, ◌∙◌, arith, zero, suc, ⊎_elim}
use Rattle.std.specs.Prelude.{◌==◌, if◌then◌else◌}
use Rattle.std.proofs.lemmas.Bool.{eqb-true, eq-eqb, ne_eqb, not-false, or_cases, or_right}
use Rattle.fj_rules.specs.declared.event.Event.{Event}
use Rattle.fj_rules.specs.declared.event.Event.TheVariants as event
use Rattle.fj_rules.specs.declared.status.Status.TheVariants as status_is
use Rattle.fj_rules.specs.declared.step.Step.TheVariants.{Fault, Cancel}
use Rattle.fj_rules.specs.Bounds.{Pool}
use Rattle.fj_rules.specs.Lists.{is_in, times_in}
use Rattle.fj_rules.specs.Tasks.{tasks, is_kept, kind, relay_in, parent}
use Rattle.fj_rules.specs.Statuses.{status, is_undone}
use Rattle.fj_rules.specs.Climbs.{path, path_up, relayed, relayed_along}
use Rattle.fj_rules.specs.Allowed.{AllowedFrom}
use Rattle.fj_rules.specs.Answers.{events_of, failing}
use Rattle.fj_rules.proofs.Lists.Members.{times_in_cons, times_in_some, Once}
use Rattle.fj_rules.proofs.Events.Lawful.{known_more}
use Rattle.fj_rules.proofs.Events.Statuses.{status_same}
use Rattle.fj_rules.proofs.Completers.Parents.{parent_known, path_once}
use Rattle.fj_rules.proofs.Steps.Standing.{Stands}
use Rattle.fj_rules.proofs.Events.KindsKept.{kept_known}

-- ---- those to whom a code is relayed

-- the way of an accepted task has accepted tasks only
way_known : (pool : Pool) (n : ℕ) (h : List Event) (c u : ℕ) → AllowedFrom pool [] h → is_in c (tasks h) ≡ true → is_in u (path_up n h (Some c)) ≡ true → is_in u (tasks h) ≡ true
unfolding path_up
way_known pool zero h c u so known there = absurd cc
way_known pool (suc n) h c u so known there =
    ⊎_elim (λ here. ap (λ v. is_in v (tasks h)) (sym (eqb-true c u here)) ∙ known) (λ later. go (parent h c) refl later (λ p. way_known pool n h p u so))
    (or_cases (c == u) (is_in u (path_up n h (parent h c))) there)
  where
    none_from : (n : ℕ) → is_in u (path_up n h None) ≡ true → ⊥
    none_from zero there = absurd cc
    none_from (suc n) there = absurd cc

    go : (from : Option ℕ) → parent h c ≡ from → is_in u (path_up n h from) ≡ true
        → ((p : ℕ) → is_in p (tasks h) ≡ true → is_in u (path_up n h (Some p)) ≡ true → is_in u (tasks h) ≡ true) → is_in u (tasks h) ≡ true
    go None is later rest = absurd (none_from n later)
    go (Some p) is later rest = rest p (parent_known pool h c p so is) later

pub path_known : (pool : Pool) (h : List Event) (c u : ℕ) → AllowedFrom pool [] h → is_in c (tasks h) ≡ true → is_in u (path h c) ≡ true → is_in u (tasks h) ≡ true
unfolding path
path_known pool h c u so = way_known pool (suc c) h c u so

-- what a code is relayed to along a way is a part of the way
relay_fewer : (h : List Event) (way : List ℕ) (u : ℕ) → times_in u (relayed_along h way) ≤ times_in u way
unfolding relayed_along
relay_fewer h [] u = omega arith
relay_fewer h (c ∷ above) u = go (is_undone (status h c)) (relay_in (kind h c)) (relay_fewer h above u)
  where
    go : (b r : Bool) → times_in u (relayed_along h above) ≤ times_in u above
        → times_in u (if b then c ∷ (if r then relayed_along h above else []) else []) ≤ times_in u (c ∷ above)
    go true true rest = omega (arith, times_in_cons u c above, times_in_cons u c (relayed_along h above), rest)
    go true false rest = omega (arith, times_in_cons u c above, times_in_cons u c [])
    go false r rest = omega arith

-- and each of them is undone, and is on the way
relay_undone : (h : List Event) (way : List ℕ) (u : ℕ) → is_in u (relayed_along h way) ≡ true → (is_undone (status h u) ≡ true) × (is_in u way ≡ true)
unfolding relayed_along
relay_undone h [] u there = absurd cc
relay_undone h (c ∷ above) u there = go (is_undone (status h c)) (relay_in (kind h c)) refl (relay_undone h above u) there
  where
    here : is_undone (status h c) ≡ true → (c == u) ≡ true → (is_undone (status h u) ≡ true) × (is_in u (c ∷ above) ≡ true)
    here is same = (ap (λ v. is_undone (status h v)) (sym (eqb-true c u same)) ∙ is, rw same refl)

    go : (b r : Bool) → is_undone (status h c) ≡ b → (is_in u (relayed_along h above) ≡ true → (is_undone (status h u) ≡ true) × (is_in u above ≡ true))
        → is_in u (if b then c ∷ (if r then relayed_along h above else []) else []) ≡ true → (is_undone (status h u) ≡ true) × (is_in u (c ∷ above) ≡ true)
    go true true is rest there =
        ⊎_elim (here is) (λ later. let parts = rest later in (parts.0, or_right (c == u) (is_in u above) parts.1))
        (or_cases (c == u) (is_in u (relayed_along h above)) there)
    go true false is rest there = ⊎_elim (here is) (λ none. absurd cc) (or_cases (c == u) false there)
    go false r is rest there = absurd cc

-- they are all different
pub relayed_once : (pool : Pool) (h : List Event) (t : ℕ) → AllowedFrom pool [] h → Once (relayed h t)
unfolding relayed
relayed_once pool h t so u = omega (arith, relay_fewer h (path h t) u, path_once pool h t so u)

pub relayed_undone : (h : List Event) (t u : ℕ) → is_in u (relayed h t) ≡ true → is_undone (status h u) ≡ true
unfolding relayed
relayed_undone h t u there = (relay_undone h (path h t) u there).0

pub relayed_on_way : (h : List Event) (t u : ℕ) → is_in u (relayed h t) ≡ true → is_in u (path h t) ≡ true
unfolding relayed
relayed_on_way h t u there = (relay_undone h (path h t) u there).1

pub relayed_known : (pool : Pool) (h : List Event) (t u : ℕ) → AllowedFrom pool [] h → is_in t (tasks h) ≡ true → is_in u (relayed h t) ≡ true → is_in u (tasks h) ≡ true
relayed_known pool h t u so known there = path_known pool h t u so known (relayed_on_way h t u there)

-- ---- settling

-- different tasks that are accepted and undone may become exceptional, one after another
pub settles_allowed : (pool : Pool) (h : List Event) (code : ℕ) (us : List ℕ) → Once us → ((u : ℕ) → is_in u us ≡ true → is_in u (tasks h) ≡ true)
    → ((u : ℕ) → is_in u us ≡ true → is_undone (status h u) ≡ true) → AllowedFrom pool h (map (λ u. event.Settle u (status_is.Exceptional code)) us)
settles_allowed pool h code [] once known undone = tt
settles_allowed pool h code (c ∷ us) once known undone =
    let e = event.Settle c (status_is.Exceptional code) in (
      (known c first, undone c first, refl, tt),
      settles_allowed pool (h ++ e ∷ []) code us (λ u. omega (arith, times_in_cons u c us, once u))
          (λ u there. known_more h e u (known u (or_right (c == u) (is_in u us) there)))
          (λ u there. ap is_undone (status_same h e u (λ b. rw (ne_eqb c u (apart u there)) refl)) ∙ undone u (or_right (c == u) (is_in u us) there)),
    )
  where
    first : is_in c (c ∷ us) ≡ true
    first = rw (eq-eqb c c refl) refl

    apart : (u : ℕ) → is_in u us ≡ true → c ≡ u → ⊥
    apart u there same =
        let both : times_in u (c ∷ us) ≡ 1 + times_in u us = times_in_cons u c us ∙ rw (eq-eqb c u same) refl in
        omega (arith, both, once u, times_in_some u us there)

pub failing_allowed : (pool : Pool) (h : List Event) (t code : ℕ) → AllowedFrom pool [] h → is_in t (tasks h) ≡ true → AllowedFrom pool h (failing h t code)
failing_allowed pool h t code so known = go (is_undone (status h t))
  where
    go : (b : Bool) → AllowedFrom pool h (if b then map (λ u. event.Settle u (status_is.Exceptional code)) (relayed h t) else [])
    go true = settles_allowed pool h code (relayed h t) (relayed_once pool h t so) (λ u. relayed_known pool h t u so known) (λ u. relayed_undone h t u)
    go false = tt

-- ---- the steps

pub fault_allowed : (pool : Pool) (h : List Event) (t code : ℕ) → AllowedFrom pool [] h → Stands pool h (Fault t code) → AllowedFrom pool h (events_of pool h (Fault t code))
unfolding events_of
fault_allowed pool h t code so st = failing_allowed pool h t code so (kept_known h t (not-false (is_kept h t) st.tests.0))

pub cancel_allowed : (pool : Pool) (h : List Event) (t : ℕ) → Stands pool h (Cancel t) → AllowedFrom pool h (events_of pool h (Cancel t))
unfolding events_of
cancel_allowed pool h t st = go (is_undone (status h t)) refl
  where
    go : (b : Bool) → is_undone (status h t) ≡ b → AllowedFrom pool h (if b then event.Settle t status_is.Cancelled ∷ [] else [])
    go true undone = ((kept_known h t (not-false (is_kept h t) st.tests.0), undone, refl, tt), tt)
    go false undone = tt
