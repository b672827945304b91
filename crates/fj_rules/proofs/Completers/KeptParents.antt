-- The parent of a kept task is kept, for a task with a kept child is not released.
use Rattle.std.proofs.Common.{ℕ, ◌≡◌, ◌≢◌, Bool, true, false, ◌&&◌, List, [], ◌∷◌, ◌++◌, Option, Some, None, refl, ap, sym, ◌∙◌, suc, subst, ⊎_elim, ◌⊎◌, inl, inr}
use Rattle.std.specs.Prelude.{◌==◌, IfSome}
use Rattle.std.specs.List.{list_any}
use Rattle.std.proofs.lemmas.Bool.{eqb-true, eq-eqb, and_parts, or_cases, or_right, true≢false, cases_eq}
use Rattle.fj_rules.specs.declared.event.Event.{Event}
use Rattle.fj_rules.specs.declared.event.Event.TheVariants.{Acc, Make, Rel}
use Rattle.fj_rules.specs.declared.kind.Kind.{Kind}
use Rattle.fj_rules.specs.Bounds.{Pool}
use Rattle.fj_rules.specs.Lists.{is_in, or_else}
use Rattle.fj_rules.specs.Tasks.{tasks, accepted_by, released_by, is_kept, kind, kind_by, is_completer, parent, parent_in}
use Rattle.fj_rules.specs.Climbs.{path, relayed}
use Rattle.fj_rules.specs.Allowed.{Allowed, AllowedFrom, is_child_of, has_kept_child}
use Rattle.fj_rules.proofs.Events.Growth.{kind_more}
use Rattle.fj_rules.proofs.Events.Lawful.{by_events, not_new}
use Rattle.fj_rules.proofs.Events.KindsKept.{accepts_kind, kept_known, kind_known}
use Rattle.fj_rules.proofs.Events.Releasing.{kept_same, accepting_keeps, release_keeps, release_forgets}
use Rattle.fj_rules.proofs.Steps.SettlesAllowed.{relayed_on_way}
use Rattle.fj_rules.proofs.Completers.Parents.{accepts_may, way_has}

-- ---- kept children

child_is : (t : ℕ) (p : Option ℕ) → is_child_of t p ≡ true → p ≡ Some t
child_is t None is = absurd cc
child_is t (Some p) is = ap Some (eqb-true p t is)

any_there : (test : ℕ → Bool) (ts : List ℕ) (u : ℕ) → is_in u ts ≡ true → test u ≡ true → list_any test ts ≡ true
any_there test [] u there passes = absurd cc
any_there test (t ∷ ts) u there passes =
    ⊎_elim (λ here. rw (ap test (eqb-true t u here) ∙ passes) refl) (λ later. or_right (test t) (list_any test ts) (any_there test ts u later passes)) (or_cases (t == u) (is_in u ts) there)

any_found : (test : ℕ → Bool) (ts : List ℕ) → list_any test ts ≡ true → (u : ℕ) × (test u ≡ true)
any_found test [] is = absurd cc
any_found test (t ∷ ts) is = go (test t) refl is (any_found test ts)
  where
    go : (b : Bool) → test t ≡ b → list_any test (t ∷ ts) ≡ true → (list_any test ts ≡ true → (u : ℕ) × (test u ≡ true)) → (u : ℕ) × (test u ≡ true)
    go true passes is rest = (t, passes)
    go false fails is rest = rest (⊎_elim (λ here. absurd (true≢false (sym here ∙ fails))) (λ later. later) (or_cases (test t) (list_any test ts) is))

-- a kept task that names it as its parent is a kept child
pub child_found : (h : List Event) (u t : ℕ) → is_kept h u ≡ true → parent h u ≡ Some t → has_kept_child h t ≡ true
unfolding has_kept_child
child_found h u t kept is = any_there (λ v. is_kept h v && is_child_of t (parent h v)) (tasks h) u (kept_known h u kept) (rw (kept, is, eq-eqb t t refl) refl)

-- and where there is a kept child there is such a task
pub child_there : (h : List Event) (t : ℕ) → has_kept_child h t ≡ true → (u : ℕ) × (is_kept h u ≡ true) × (parent h u ≡ Some t)
unfolding has_kept_child
child_there h t is =
    let found = any_found (λ v. is_kept h v && is_child_of t (parent h v)) (tasks h) is in
    let parts = and_parts (is_kept h found.0) (is_child_of t (parent h found.0)) found.1 in
    (found.0, parts.0, child_is t (parent h found.0) parts.1)

-- ---- the parent of a kept task

-- a task stays kept, but where it is released now
pub kept_stays : (pool : Pool) (h : List Event) (e : Event) (t : ℕ) → AllowedFrom pool [] h → Allowed pool h e → (released_by e ≡ Some t → ⊥) → is_kept h t ≡ true → is_kept (h ++ e ∷ []) t ≡ true
kept_stays pool h e t so may other kept = go e refl
  where
    apart : (f : Event) → e ≡ f → (u : ℕ) → accepted_by f ≡ Some u → t ≢ u
    apart f same u is at = not_new pool h e t so may (kept_known h t kept) (ap accepted_by same ∙ is ∙ ap Some (sym at))

    go : (f : Event) → e ≡ f → is_kept (h ++ e ∷ []) t ≡ true
    go (Acc u o k) same = accepting_keeps h e u t (ap accepted_by same) (apart (Acc u o k) same u refl) ∙ kept
    go (Make u k) same = accepting_keeps h e u t (ap accepted_by same) (apart (Make u k) same u refl) ∙ kept
    go (Rel u) same = ap (λ (f : Event). is_kept (h ++ f ∷ []) t) same ∙ release_keeps h u t (λ at. other (ap released_by same ∙ ap Some (sym at))) ∙ kept
    go _ same = kept_same h e t (ap accepted_by same) (ap released_by same) ∙ kept

-- and one that is kept was kept before, or is accepted now
pub kept_before : (h : List Event) (e : Event) (t : ℕ) → is_kept (h ++ e ∷ []) t ≡ true → (is_kept h t ≡ true) ⊎ (accepted_by e ≡ Some t)
kept_before h (Acc u o k) t kept = ⊎_elim (λ same. inr (ap Some (sym same))) (λ other. inl (sym (accepting_keeps h (Acc u o k) u t refl other) ∙ kept)) (cases_eq t u)
kept_before h (Make u k) t kept = ⊎_elim (λ same. inr (ap Some (sym same))) (λ other. inl (sym (accepting_keeps h (Make u k) u t refl other) ∙ kept)) (cases_eq t u)
kept_before h (Rel u) t kept =
    ⊎_elim (λ same. absurd (true≢false (sym kept ∙ ap (is_kept (h ++ Rel u ∷ [])) same ∙ release_forgets h u))) (λ other. inl (sym (release_keeps h u t other) ∙ kept)) (cases_eq t u)
kept_before h e t kept = inl (sym (kept_same h e t refl refl) ∙ kept)

abbrev AreParentsKept : List Event → Type 0
AreParentsKept h = (t p : ℕ) → is_kept h t ≡ true → parent h t ≡ Some p → is_kept h p ≡ true

-- the parent that a new task names is kept
new_under : (pool : Pool) (h : List Event) (e : Event) (t p : ℕ) (k : Kind) → Allowed pool h e → kind_by t e ≡ Some k → parent_in (Some k) ≡ Some p → is_kept h p ≡ true
new_under pool h e t p k may said is =
    (subst (λ (o : Option ℕ). IfSome o (λ q. (is_kept h q ≡ true) × (is_completer h q ≡ true))) is (accepts_may pool h e t k may said).under).0

-- a kept task with a kept child stays kept
parent_stays : (pool : Pool) (h : List Event) (e : Event) (t p : ℕ) → AllowedFrom pool [] h → Allowed pool h e → parent h t ≡ Some p → is_kept h p ≡ true → is_kept h t ≡ true
    → is_kept (h ++ e ∷ []) p ≡ true
parent_stays pool h e t p so may is under kept = kept_stays pool h e p so may (released_no e may) under
  where
    released_no : (f : Event) → Allowed pool h f → released_by f ≡ Some p → ⊥
    released_no (Rel u) may at = let same : u ≡ p = cc in true≢false (sym (child_found h t p kept is) ∙ ap (has_kept_child h) (sym same) ∙ may.2)
    released_no _ may at = absurd cc

accepts_releases : (e : Event) (t : ℕ) → accepted_by e ≡ Some t → (p : ℕ) → released_by e ≡ Some p → ⊥
accepts_releases (Rel u) t is p also = absurd cc
accepts_releases _ t is p also = absurd cc

parents_more : (pool : Pool) (h : List Event) (e : Event) → AllowedFrom pool [] h → AreParentsKept h → Allowed pool h e → AreParentsKept (h ++ e ∷ [])
unfolding parent
parents_more pool h e so kept may t p still is = go (kind h t) refl (kind_by t e) refl (sym (ap parent_in (kind_more h t e)) ∙ is)
  where
    old : (k : Kind) → kind h t ≡ Some k → parent h t ≡ Some p → is_kept (h ++ e ∷ []) p ≡ true
    old k ks under =
        ⊎_elim (λ before. parent_stays pool h e t p so may under (kept t p before under) before)
        (λ new. absurd (not_new pool h e t so may (kind_known h t k ks) new)) (kept_before h e t still)

    fresh : (k : Kind) → kind_by t e ≡ Some k → is_kept h p ≡ true → is_kept (h ++ e ∷ []) p ≡ true
    fresh k said under = kept_stays pool h e p so may (accepts_releases e t (accepts_kind t e k said) p) under

    go : (k : Option Kind) → kind h t ≡ k → (said : Option Kind) → kind_by t e ≡ said → parent_in (or_else k said) ≡ Some p → is_kept (h ++ e ∷ []) p ≡ true
    go (Some k) ks said also is = old k ks (ap parent_in ks ∙ is)
    go None ks (Some k) also is = fresh k also (new_under pool h e t p k may also is)
    go None ks None also is = absurd cc

parents_none : AreParentsKept []
unfolding parent kind
parents_none t p kept is = absurd cc

pub parent_kept : (pool : Pool) (h : List Event) (t p : ℕ) → AllowedFrom pool [] h → is_kept h t ≡ true → parent h t ≡ Some p → is_kept h p ≡ true
parent_kept pool h t p so = by_events pool AreParentsKept parents_none (parents_more pool) h so t p

-- ---- the way up from a kept task

-- the way of a kept task has kept tasks only
pub path_kept : (pool : Pool) (h : List Event) (c u : ℕ) → AllowedFrom pool [] h → is_kept h c ≡ true → is_in u (path h c) ≡ true → is_kept h u ≡ true
unfolding path
path_kept pool h c u so = way_has (is_kept h) (suc c) h c u (λ t p kept is. parent_kept pool h t p so kept is)

-- so those to whom a kept task relays are kept
pub relayed_kept : (pool : Pool) (h : List Event) (t u : ℕ) → AllowedFrom pool [] h → is_kept h t ≡ true → is_in u (relayed h t) ≡ true → is_kept h u ≡ true
relayed_kept pool h t u so kept there = path_kept pool h t u so kept (relayed_on_way h t u there)
