-- What is queued, held or open is kept, so there are no more of them than kept tasks.
use Rattle.std.proofs.Common.{ℕ, ◌≡◌, ◌≢◌, ◌+◌, ◌≤◌, Bool, true, false, not, List, [], ◌∷◌, ◌++◌, length, Some, refl, ap, sym, ◌∙◌, arith, ⊎_elim, length-append}
use Rattle.std.specs.Prelude.{nat_lt, if◌then◌else◌}
use Rattle.std.specs.List.{filter, flat_map}
use Rattle.std.proofs.lemmas.Bool.{eq-eqb, ne_eqb, true≢false}
use Rattle.fj_rules.specs.declared.event.Event.{Event}
use Rattle.fj_rules.specs.declared.event.Event.TheVariants.{Rel}
use Rattle.fj_rules.specs.declared.owner.Owner.{Owner}
use Rattle.fj_rules.specs.declared.place.Place.{Place}
use Rattle.fj_rules.specs.declared.place.Place.TheVariants.{Queued, Held, Open, Gone}
use Rattle.fj_rules.specs.Bounds.{Pool, owners, workers}
use Rattle.fj_rules.specs.Lists.{is_in, without, times_in}
use Rattle.fj_rules.specs.Tasks.{tasks, accepted, released, released_by, is_kept, live, is_completer}
use Rattle.fj_rules.specs.Queues.{queue}
use Rattle.fj_rules.specs.Stacks.{stack}
use Rattle.fj_rules.specs.Completers.{is_spent}
use Rattle.fj_rules.specs.Places.{place, is_open, is_gone, open_tasks, gone}
use Rattle.fj_rules.specs.Climbs.{Spent, arrival}
use Rattle.fj_rules.specs.Allowed.{Allowed, AllowedFrom}
use Rattle.fj_rules.specs.Headline.{all_places}
use Rattle.fj_rules.proofs.Lists.Members.{is_in_filter, times_in_append, times_in_cons, times_in_some, Once, length_without}
use Rattle.fj_rules.proofs.Events.Growth.{released_more}
use Rattle.fj_rules.proofs.Events.Lawful.{by_events, is_in_with, is_numbered, pushed_known, queued_pushed, taken_known}
use Rattle.fj_rules.proofs.Places.StacksTaken.{stack_taken}
use Rattle.fj_rules.proofs.Places.GoneTasks.{gone_stays, gone_once}
use Rattle.fj_rules.proofs.Places.GoneList.{queued_here, held_here}
use Rattle.fj_rules.proofs.Places.OnePlace.{one_place, never}
use Rattle.fj_rules.proofs.Places.OpenList.{in_open, open_accepted, open_once}
use Rattle.fj_rules.proofs.Completers.ArrivalPlaces.{gone_spent}
use Rattle.fj_rules.proofs.Events.Releasing.{released_known}
use Rattle.fj_rules.proofs.Steps.ReleasesAllowed.{gone_is}
use Rattle.fj_rules.proofs.Events.KindsKept.{kept_known}

-- ---- released tasks are gone

abbrev IsReleasedGone : List Event → Type 0
IsReleasedGone h = (t : ℕ) → is_in t (released h) ≡ true → is_gone (place h t) ≡ true

releases_gone : (pool : Pool) (h : List Event) (e : Event) (t : ℕ) → Allowed pool h e → released_by e ≡ Some t → (is_kept h t ≡ true) × (is_gone (place h t) ≡ true)
releases_gone pool h (Rel u) t may is = let same : u ≡ t = cc in (ap (is_kept h) (sym same) ∙ may.0, ap (λ v. is_gone (place h v)) (sym same) ∙ ap is_gone may.1)
releases_gone pool h _ t may is = absurd cc

released_gone_more : (pool : Pool) (h : List Event) (e : Event) → AllowedFrom pool [] h → IsReleasedGone h → Allowed pool h e → IsReleasedGone (h ++ e ∷ [])
released_gone_more pool h e so were may t there =
    ⊎_elim
    (λ old. gone_stays pool h e t so may (released_known pool h so t old) (were t old))
    (λ new. let now = releases_gone pool h e t may new in gone_stays pool h e t so may (kept_known h t now.0) now.1)
    (is_in_with t (released h) (released_by e) (rw released_more at there))

released_gone_none : IsReleasedGone []
unfolding released
released_gone_none t there = absurd cc

-- a released task is gone, and stays so
pub released_gone : (pool : Pool) (h : List Event) → AllowedFrom pool [] h → IsReleasedGone h
released_gone pool = by_events pool IsReleasedGone released_gone_none (released_gone_more pool)

-- so a task that is not gone is kept
pub ungone_kept : (pool : Pool) (h : List Event) (t : ℕ) → AllowedFrom pool [] h → is_in t (tasks h) ≡ true → is_gone (place h t) ≡ false → is_kept h t ≡ true
unfolding is_kept
ungone_kept pool h t so known still =
    let unreleased : is_in t (released h) ≡ false = never (is_in t (released h)) (λ there. true≢false (sym (released_gone pool h so t there) ∙ still)) in
    rw (known, unreleased) refl

-- a released completer is spent, so an arrival there changes nothing
pub released_spent : (pool : Pool) (h : List Event) (c : ℕ) → AllowedFrom pool [] h → is_completer h c ≡ true → is_in c (released h) ≡ true → is_spent h c ≡ true
released_spent pool h c so completer there = gone_spent pool h c so completer (gone_is (place h c) (released_gone pool h so c there))

pub released_arrival : (pool : Pool) (h : List Event) (c : ℕ) → AllowedFrom pool [] h → is_completer h c ≡ true → is_in c (released h) ≡ true → arrival h c ≡ Spent
unfolding arrival
released_arrival pool h c so completer there = rw (released_spent pool h c so completer there) refl

pub queued_kept : (pool : Pool) (h : List Event) (o : Owner) (t : ℕ) → AllowedFrom pool [] h → is_in t (queue h o) ≡ true → is_kept h t ≡ true
queued_kept pool h o t so there = ungone_kept pool h t so (pushed_known h o t (queued_pushed h o t there)) (queued_here h o t there)

pub held_kept : (pool : Pool) (h : List Event) (w t : ℕ) → AllowedFrom pool [] h → is_in t (stack h w) ≡ true → is_kept h t ≡ true
held_kept pool h w t so there = ungone_kept pool h t so (taken_known pool h so t (stack_taken h w t there)) (held_here h w t there)

open_ungone : (p : Place) → is_open p ≡ true → is_gone p ≡ false
open_ungone Open is = refl
open_ungone (Queued o) is = absurd cc
open_ungone (Held w) is = absurd cc
open_ungone Gone is = absurd cc

pub open_kept : (pool : Pool) (h : List Event) (t : ℕ) → AllowedFrom pool [] h → is_open (place h t) ≡ true → is_kept h t ≡ true
open_kept pool h t so is = ungone_kept pool h t so (open_accepted pool h t so is) (open_ungone (place h t) is)

-- ---- how many they are

-- different numbers of a list are no more than the list has
pub few_within : (xs ys : List ℕ) → Once xs → ((t : ℕ) → is_in t xs ≡ true → is_in t ys ≡ true) → length xs ≤ length ys
few_within [] ys once within = omega arith
few_within (x ∷ xs) ys once within =
    omega (
      arith,
      few_within xs (without ys (x ∷ [])) (λ u. omega (arith, once u, times_in_cons u x xs)) later,
      length_without x ys,
      times_in_some x ys (within x (rw (eq-eqb x x refl) refl)),
    )
  where
    later : (u : ℕ) → is_in u xs ≡ true → is_in u (without ys (x ∷ [])) ≡ true
    later u there =
        let apart : x ≢ u = λ same.
        let both : times_in u (x ∷ xs) ≡ 1 + times_in u xs = times_in_cons u x xs ∙ rw (eq-eqb x u same) refl in
        omega (arith, both, once u, times_in_some u xs there) in
        let inside : is_in u (x ∷ xs) ≡ true = rw (ne_eqb x u apart, there) refl in
        is_in_filter (λ v. not (is_in v (x ∷ []))) u ys ∙ rw (within u inside, ne_eqb x u apart) refl

-- different numbers that are all kept are no more than the kept tasks
pub few_kept : (pool : Pool) (h : List Event) (ts : List ℕ) → AllowedFrom pool [] h → Once ts → ((t : ℕ) → is_in t ts ≡ true → is_kept h t ≡ true) → length ts ≤ live h
unfolding live
few_kept pool h ts so once kept =
    few_within ts (filter (is_kept h) (tasks h)) once (λ t there. is_in_filter (is_kept h) t (tasks h) ∙ rw (kept_known h t (kept t there), kept t there) refl)

pub few_open : (pool : Pool) (h : List Event) → AllowedFrom pool [] h → length (open_tasks h) ≤ live h
few_open pool h so = few_kept pool h (open_tasks h) so (open_once pool h so) (λ t there. open_kept pool h t so (sym (in_open h t) ∙ there))

-- the number of times that a task stands in a queue, on a stack or among the open ones, and among the gone ones
busy_times : (pool : Pool) (h : List Event) (t : ℕ) → AllowedFrom pool [] h
    → times_in t (flat_map (queue h) (owners pool.limits) ++ flat_map (stack h) (workers pool.limits) ++ open_tasks h) + times_in t (gone h) ≡ (if nat_lt t (accepted h) then 1 else 0)
unfolding all_places
busy_times pool h t so = sym (times_in_append t (flat_map (queue h) (owners pool.limits) ++ flat_map (stack h) (workers pool.limits) ++ open_tasks h) (gone h)) ∙ one_place pool h so t

-- in all queues, on all stacks and among the open ones together each number stands once at most
pub busy_once : (pool : Pool) (h : List Event) → AllowedFrom pool [] h → Once (flat_map (queue h) (owners pool.limits) ++ flat_map (stack h) (workers pool.limits) ++ open_tasks h)
busy_once pool h so t = go (nat_lt t (accepted h)) (busy_times pool h t so)
  where
    busy : List ℕ
    busy = flat_map (queue h) (owners pool.limits) ++ flat_map (stack h) (workers pool.limits) ++ open_tasks h

    go : (b : Bool) → times_in t busy + times_in t (gone h) ≡ (if b then 1 else 0) → times_in t busy ≤ 1
    go true is = omega (arith, is)
    go false is = omega (arith, is)

-- each of them is kept
pub busy_kept : (pool : Pool) (h : List Event) (t : ℕ) → AllowedFrom pool [] h
    → is_in t (flat_map (queue h) (owners pool.limits) ++ flat_map (stack h) (workers pool.limits) ++ open_tasks h) ≡ true → is_kept h t ≡ true
busy_kept pool h t so there = go (nat_lt t (accepted h)) refl (busy_times pool h t so)
  where
    busy : List ℕ
    busy = flat_map (queue h) (owners pool.limits) ++ flat_map (stack h) (workers pool.limits) ++ open_tasks h

    still : (b : Bool) → is_in t (tasks h) ≡ true → is_gone (place h t) ≡ b → times_in t (gone h) ≡ 0 → b ≡ false
    still false known is none = refl
    still true known is none = let here : times_in t (gone h) ≡ 1 = gone_once pool h so t ∙ rw (known, is) refl in absurd (omega (arith, here, none))

    go : (b : Bool) → nat_lt t (accepted h) ≡ b → times_in t busy + times_in t (gone h) ≡ (if b then 1 else 0) → is_kept h t ≡ true
    go true is at =
        let known = is_numbered pool h so t ∙ is in
        ungone_kept pool h t so known (still (is_gone (place h t)) known refl (omega (arith, at, times_in_some t busy there)))
    go false is at = absurd (omega (arith, at, times_in_some t busy there))

-- so they are no more than the kept tasks
pub few_busy : (pool : Pool) (h : List Event) → AllowedFrom pool [] h
    → length (flat_map (queue h) (owners pool.limits) ++ flat_map (stack h) (workers pool.limits) ++ open_tasks h) ≤ live h
few_busy pool h so =
    few_kept pool h (flat_map (queue h) (owners pool.limits) ++ flat_map (stack h) (workers pool.limits) ++ open_tasks h) so (busy_once pool h so) (λ t there. busy_kept pool h t so there)

-- the same by their lengths
pub few_in_all : (pool : Pool) (h : List Event) → AllowedFrom pool [] h
    → length (flat_map (queue h) (owners pool.limits)) + length (flat_map (stack h) (workers pool.limits)) + length (open_tasks h) ≤ live h
few_in_all pool h so =
    let qs = flat_map (queue h) (owners pool.limits) in
    let ss = flat_map (stack h) (workers pool.limits) in
    omega (arith, few_busy pool h so, length-append (qs ++ ss) (open_tasks h), length-append qs ss)
