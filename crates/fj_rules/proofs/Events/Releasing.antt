-- A release: one task less is kept, and everything else stays. An acceptance: one task more is kept.
use Rattle.std.proofs.Common.{ℕ, ◌≡◌, ◌≢◌, ◌+◌, Bool, true, false, cond, ◌&&◌, List, [], ◌∷◌, ◌++◌, length, Some, None, refl, ap, sym, ◌∙◌, arith, ⊎_elim, length-append}
use Rattle.std.specs.List.{filter}
use Rattle.std.proofs.lemmas.List.{append-nil}
use Rattle.std.proofs.lemmas.List.Elements.{filter-append}
use Rattle.std.proofs.lemmas.Bool.{eq-eqb, ne_eqb, or_right, true≢false, cases_eq}
use Rattle.fj_rules.specs.declared.event.Event.{Event}
use Rattle.fj_rules.specs.declared.event.Event.TheVariants.{Acc, Make, Rel}
use Rattle.fj_rules.specs.declared.owner.Owner.{Owner}
use Rattle.fj_rules.specs.Bounds.{Pool}
use Rattle.fj_rules.specs.Lists.{is_in, times_in}
use Rattle.fj_rules.specs.Tasks.{tasks, accepted, accepted_by, released, released_by, is_kept, live, kind, parent}
use Rattle.fj_rules.specs.Queues.{queue}
use Rattle.fj_rules.specs.Stacks.{stack}
use Rattle.fj_rules.specs.Statuses.{status}
use Rattle.fj_rules.specs.Completers.{pending}
use Rattle.fj_rules.specs.Places.{place, open_tasks, gone}
use Rattle.fj_rules.specs.Allowed.{Allowed, AllowedFrom}
use Rattle.fj_rules.proofs.Lists.Members.{is_in_append, times_in_cons, times_in_some, filter_agree_in, Once}
use Rattle.fj_rules.proofs.Events.Growth.{tasks_more, released_more, or_false}
use Rattle.fj_rules.proofs.Events.Lawful.{by_events, is_in_with, known_more, is_new, tasks_once}
use Rattle.fj_rules.proofs.Events.KindsKept.{kind_same, parent_same, tasks_same, kept_known}
use Rattle.fj_rules.proofs.Places.OnePlace.{never, accepted_now}
use Rattle.fj_rules.proofs.Places.PlaceLaws.{unmoved_tasks, unmoved_accepted, unmoved_queue, unmoved_stack}
use Rattle.fj_rules.proofs.Completers.Arrivals.{pending_untouched}
use Rattle.fj_rules.proofs.Events.Calm.{calm_status, calm_place, calm_open, calm_gone}

-- ---- which tasks are kept

-- an event that releases nothing leaves the released ones
pub released_same : (h : List Event) (e : Event) → released_by e ≡ None → released (h ++ e ∷ []) ≡ released h
released_same h e none = released_more h e ∙ rw none (append-nil (released h))

-- one that also accepts nothing leaves which tasks are kept, and how many
pub kept_same : (h : List Event) (e : Event) (u : ℕ) → accepted_by e ≡ None → released_by e ≡ None → is_kept (h ++ e ∷ []) u ≡ is_kept h u
unfolding is_kept
kept_same h e u none also = rw (tasks_same h e none, released_same h e also) refl

pub live_same : (h : List Event) (e : Event) → accepted_by e ≡ None → released_by e ≡ None → live (h ++ e ∷ []) ≡ live h
unfolding live
live_same h e none also = rw (tasks_same h e none) (ap length (filter_agree_in (is_kept (h ++ e ∷ [])) (is_kept h) (tasks h) (λ u there. kept_same h e u none also)))

-- a released task is kept no more
pub release_forgets : (h : List Event) (t : ℕ) → is_kept (h ++ Rel t ∷ []) t ≡ false
unfolding is_kept
release_forgets h t =
    let there : is_in t (released (h ++ Rel t ∷ [])) ≡ true =
    rw (released_more, is_in_append t (released h) (t ∷ [])) (or_right (is_in t (released h)) (is_in t (t ∷ [])) (rw (eq-eqb t t refl) refl)) in
    rw there (never_both (is_in t (tasks (h ++ Rel t ∷ []))))
  where
    never_both : (b : Bool) → (b && false) ≡ false
    never_both true = refl
    never_both false = refl

-- each other one is kept or not as before
pub release_keeps : (h : List Event) (t u : ℕ) → u ≢ t → is_kept (h ++ Rel t ∷ []) u ≡ is_kept h u
unfolding is_kept
release_keeps h t u other =
    let same : is_in u (released (h ++ Rel t ∷ [])) ≡ is_in u (released h) =
    rw (released_more, is_in_append u (released h) (t ∷ []), ne_eqb t u (λ is. other (sym is))) (or_false (is_in u (released h))) in
    rw (tasks_same h (Rel t) refl, same) refl

-- a filter that passes one member less
one_less : (p q : ℕ → Bool) (t : ℕ) (xs : List ℕ) → Once xs → is_in t xs ≡ true → p t ≡ true → q t ≡ false → ((u : ℕ) → u ≢ t → q u ≡ p u)
    → length (filter q xs) + 1 ≡ length (filter p xs)
one_less p q t [] once there passes fails others = absurd cc
one_less p q t (x ∷ xs) once there passes fails others =
    ⊎_elim here (λ other. rest other (one_less p q t xs (λ u. omega (arith, once u, times_in_cons u x xs)) (rw (ne_eqb x t other) at there) passes fails others)) (cases_eq x t)
  where
    here : x ≡ t → length (filter q (x ∷ xs)) + 1 ≡ length (filter p (x ∷ xs))
    here same =
        let both : times_in t (x ∷ xs) ≡ 1 + times_in t xs = times_in_cons t x xs ∙ rw (eq-eqb x t same) refl in
        let apart : (u : ℕ) → is_in u xs ≡ true → u ≢ t = λ u inside is. omega (arith, both, once t, times_in_some t xs (ap (λ v. is_in v xs) (sym is) ∙ inside)) in
        let agree : filter q xs ≡ filter p xs = filter_agree_in q p xs (λ u inside. others u (apart u inside)) in
        rw (ap q same ∙ fails, ap p same ∙ passes) (omega (arith, ap length agree))

    rest : x ≢ t → length (filter q xs) + 1 ≡ length (filter p xs) → length (filter q (x ∷ xs)) + 1 ≡ length (filter p (x ∷ xs))
    rest other less = rw (others x other) (go (p x))
      where
        go : (b : Bool) → length (cond b (x ∷ filter q xs) (filter q xs)) + 1 ≡ length (cond b (x ∷ filter p xs) (filter p xs))
        go true = omega (arith, less)
        go false = less

-- one task less is kept
pub release_live : (pool : Pool) (h : List Event) (t : ℕ) → AllowedFrom pool [] h → Allowed pool h (Rel t) → live (h ++ Rel t ∷ []) + 1 ≡ live h
unfolding live
release_live pool h t so may =
    rw (tasks_same h (Rel t) refl)
    (one_less (is_kept h) (is_kept (h ++ Rel t ∷ [])) t (tasks h) (tasks_once pool h so) (kept_known h t may.0) may.0 (release_forgets h t) (λ u other. release_keeps h t u other))

-- ---- what a release leaves

pub release_tasks : (h : List Event) (t : ℕ) → tasks (h ++ Rel t ∷ []) ≡ tasks h
release_tasks h t = unmoved_tasks h (Rel t) refl

pub release_accepted : (h : List Event) (t : ℕ) → accepted (h ++ Rel t ∷ []) ≡ accepted h
release_accepted h t = unmoved_accepted h (Rel t) refl

pub release_kind : (h : List Event) (t u : ℕ) → kind (h ++ Rel t ∷ []) u ≡ kind h u
release_kind h t u = kind_same h (Rel t) u refl

pub release_parent : (h : List Event) (t u : ℕ) → parent (h ++ Rel t ∷ []) u ≡ parent h u
release_parent h t u = parent_same h (Rel t) u refl

pub release_status : (h : List Event) (t u : ℕ) → status (h ++ Rel t ∷ []) u ≡ status h u
release_status h t u = calm_status h (Rel t) u refl

pub release_pending : (h : List Event) (t u : ℕ) → pending (h ++ Rel t ∷ []) u ≡ pending h u
release_pending h t u = pending_untouched h (Rel t) u refl refl

pub release_queue : (h : List Event) (t : ℕ) (o : Owner) → queue (h ++ Rel t ∷ []) o ≡ queue h o
release_queue h t o = unmoved_queue h (Rel t) o refl

pub release_stack : (h : List Event) (t w : ℕ) → stack (h ++ Rel t ∷ []) w ≡ stack h w
release_stack h t w = unmoved_stack h (Rel t) w refl

pub release_place : (pool : Pool) (h : List Event) (t u : ℕ) → AllowedFrom pool [] h → Allowed pool h (Rel t) → is_in u (tasks h) ≡ true → place (h ++ Rel t ∷ []) u ≡ place h u
release_place pool h t u so may known = calm_place pool h (Rel t) u so may refl known

pub release_open : (pool : Pool) (h : List Event) (t : ℕ) → AllowedFrom pool [] h → Allowed pool h (Rel t) → open_tasks (h ++ Rel t ∷ []) ≡ open_tasks h
release_open pool h t so may = calm_open pool h (Rel t) so may refl

pub release_gone : (pool : Pool) (h : List Event) (t : ℕ) → AllowedFrom pool [] h → Allowed pool h (Rel t) → gone (h ++ Rel t ∷ []) ≡ gone h
release_gone pool h t so may = calm_gone pool h (Rel t) so may refl

-- ---- acceptances

abbrev IsReleasedKnown : List Event → Type 0
IsReleasedKnown h = (t : ℕ) → is_in t (released h) ≡ true → is_in t (tasks h) ≡ true

releases_known : (pool : Pool) (h : List Event) (e : Event) (t : ℕ) → Allowed pool h e → released_by e ≡ Some t → is_in t (tasks h) ≡ true
releases_known pool h (Rel u) t may is = let same : u ≡ t = cc in ap (λ v. is_in v (tasks h)) (sym same) ∙ kept_known h u may.0
releases_known pool h _ t may is = absurd cc

released_known_more : (pool : Pool) (h : List Event) (e : Event) → AllowedFrom pool [] h → IsReleasedKnown h → Allowed pool h e → IsReleasedKnown (h ++ e ∷ [])
released_known_more pool h e so known may t there =
    known_more h e t (⊎_elim (known t) (releases_known pool h e t may) (is_in_with t (released h) (released_by e) (rw released_more at there)))

released_known_none : IsReleasedKnown []
unfolding released
released_known_none t there = absurd cc

-- a released task was accepted
pub released_known : (pool : Pool) (h : List Event) → AllowedFrom pool [] h → IsReleasedKnown h
released_known pool = by_events pool IsReleasedKnown released_known_none (released_known_more pool)

accepts_releases : (e : Event) (t : ℕ) → accepted_by e ≡ Some t → released_by e ≡ None
accepts_releases (Acc u o k) t is = refl
accepts_releases (Make u k) t is = refl
accepts_releases _ t is = absurd cc

-- a new task is kept
pub new_kept : (pool : Pool) (h : List Event) (e : Event) (t : ℕ) → AllowedFrom pool [] h → Allowed pool h e → accepted_by e ≡ Some t → is_kept (h ++ e ∷ []) t ≡ true
unfolding is_kept
new_kept pool h e t so may is =
    let unreleased : is_in t (released h) ≡ false = never (is_in t (released h)) (λ there. true≢false (sym (released_known pool h so t there) ∙ is_new pool h e t so may is)) in
    rw (accepted_now h e t is, released_same h e (accepts_releases e t is), unreleased) refl

-- each other one is kept or not as before
pub accepting_keeps : (h : List Event) (e : Event) (t u : ℕ) → accepted_by e ≡ Some t → u ≢ t → is_kept (h ++ e ∷ []) u ≡ is_kept h u
unfolding is_kept
accepting_keeps h e t u is other =
    let same : is_in u (tasks (h ++ e ∷ [])) ≡ is_in u (tasks h) =
    rw (tasks_more, is, is_in_append u (tasks h) (t ∷ []), ne_eqb t u (λ at. other (sym at))) (or_false (is_in u (tasks h))) in
    rw (same, released_same h e (accepts_releases e t is)) refl

-- one task more is kept
pub accepting_live : (pool : Pool) (h : List Event) (e : Event) (t : ℕ) → AllowedFrom pool [] h → Allowed pool h e → accepted_by e ≡ Some t → live (h ++ e ∷ []) ≡ live h + 1
unfolding live
accepting_live pool h e t so may is =
    let p : ℕ → Bool = is_kept (h ++ e ∷ []) in
    let apart : (u : ℕ) → is_in u (tasks h) ≡ true → u ≢ t = λ u there same. true≢false (sym there ∙ ap (λ v. is_in v (tasks h)) same ∙ is_new pool h e t so may is) in
    let old : filter p (tasks h) ≡ filter (is_kept h) (tasks h) = filter_agree_in p (is_kept h) (tasks h) (λ u there. accepting_keeps h e t u is (apart u there)) in
    let last : filter p (t ∷ []) ≡ t ∷ [] = rw (new_kept pool h e t so may is) refl in
    let split : filter p (tasks (h ++ e ∷ [])) ≡ filter (is_kept h) (tasks h) ++ t ∷ [] = rw (tasks_more, is, filter-append, old, last) refl in
    ap length split ∙ length-append (filter (is_kept h) (tasks h)) (t ∷ [])
