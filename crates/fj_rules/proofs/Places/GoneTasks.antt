-- A task that is gone stays gone, so the list of gone tasks has each of them once.
use Rattle.std.proofs.Common.{ℕ, ◌≡◌, ◌+◌, ◌-◌, ◌≤◌, Bool, true, false, cond, not, ◌&&◌, List, [], ◌∷◌, ◌++◌, length, Option, Some, None, refl, ap, sym, ◌∙◌, arith, ⊎_elim, ◌⊎◌, inl, inr}
use Rattle.std.specs.Prelude.{◌==◌, is_some}
use Rattle.std.specs.List.{filter, filter_map, list_any, find, cons_option}
use Rattle.std.proofs.lemmas.Bool.{eqb-true, eq-eqb, and_parts, or_cases, or_right, true≢false, not-true}
use Rattle.fj_rules.specs.declared.event.Event.{Event}
use Rattle.fj_rules.specs.declared.event.Event.TheVariants.{Acc, Make, Out, End}
use Rattle.fj_rules.specs.declared.owner.Owner.{Owner}
use Rattle.fj_rules.specs.declared.status.Status.{Status}
use Rattle.fj_rules.specs.Bounds.{Pool}
use Rattle.fj_rules.specs.Lists.{is_in, without, or_else, times_in}
use Rattle.fj_rules.specs.Queues.{is_same, pushed, pushed_by, taken, taken_by, left, queue}
use Rattle.fj_rules.specs.Tasks.{tasks, accepted_by, is_completer}
use Rattle.fj_rules.specs.Stacks.{stack, ended, out_by, ended_by}
use Rattle.fj_rules.specs.Statuses.{or_undone, status, status_from, status_by, is_undone, accepts}
use Rattle.fj_rules.specs.Completers.{is_spent, fires_or_passes}
use Rattle.fj_rules.specs.Places.{queued_in, held_by, opened, opened_by, place, place_of, is_gone, owner_by, worker_by, gone, gone_from, newly_gone}
use Rattle.fj_rules.specs.Allowed.{Allowed, AllowedFrom}
use Rattle.fj_rules.proofs.Lists.Members.{is_in_append, times_in_append, times_in_none, times_in_some, times_in_filter, is_in_filter, get_is_in, Once}
use Rattle.fj_rules.proofs.Events.Growth.{pushed_more, taken_more, stack_more, opened_more, status_more, gone_more}
use Rattle.fj_rules.proofs.Events.Lawful.{by_events, number_if_is, is_in_with, front_cases, same_owner, allowed_more, known_more, pushed_accepts, is_new, queued_pushed, queued_fresh, tasks_once, take_chosen, chosen_queued, not_new}
use Rattle.fj_rules.proofs.Events.Queues.{left_of_taken}
use Rattle.fj_rules.proofs.Places.StacksTaken.{unless_cases, out_takes}
use Rattle.fj_rules.proofs.Events.KindsKept.{completer_still}

-- ---- where a task is not

-- what was pushed and not taken is in the queue
pub in_queue : (h : List Event) (o : Owner) (t : ℕ) → is_in t (pushed h o) ≡ true → is_in t (taken h) ≡ false → is_in t (queue h o) ≡ true
unfolding queue
in_queue h o t there absent = is_in_filter (λ u. not (is_in u (left h o))) t (pushed h o) ∙ rw (there, left_of_taken h o t absent) refl

find_later : {A : Type 0} (p : A → Bool) (said : Option A) (xs : List A) → is_some (find p xs) ≡ true → is_some (find p (cons_option said xs)) ≡ true
find_later p None xs found = found
find_later p (Some x) xs found = elim (p x) as (λ b. is_some (cond b (Some x) (find p xs)) ≡ true) [ true ↦ refl | false ↦ found ]

find_here : {A : Type 0} (p : A → Bool) (x : A) (said : Option A) (xs : List A) → p x ≡ true → said ≡ Some x → is_some (find p (cons_option said xs)) ≡ true
find_here p x said xs passes is = rw (is, passes) refl

owner_here : (o : Owner) (t : ℕ) (e : Event) → pushed_by o e ≡ Some t → owner_by t e ≡ Some o
owner_here o t (Acc u q k) is =
    let same = number_if_is (is_same o q) u t is in
    rw (eq-eqb u t same.1) (ap Some (sym (same_owner o q same.0)))
owner_here o t _ is = absurd cc

-- a task in a queue has that queue's owner among its own
find_owner : (p : Owner → Bool) (t : ℕ) (o : Owner) → p o ≡ true → (h : List Event) → is_in t (filter_map (pushed_by o) h) ≡ true → is_some (find p (filter_map (owner_by t) h)) ≡ true
find_owner p t o passes [] there = absurd cc
find_owner p t o passes (e ∷ h) there =
    ⊎_elim
    (λ is. find_here p o (owner_by t e) (filter_map (owner_by t) h) passes (owner_here o t e is))
    (λ rest. find_later p (owner_by t e) (filter_map (owner_by t) h) (find_owner p t o passes h rest))
    (front_cases t (pushed_by o e) (filter_map (pushed_by o) h) there)

none_some : {A : Type 0} (o : Option A) → o ≡ None → is_some o ≡ true → ⊥
none_some None is also = absurd cc
none_some (Some x) is also = absurd cc

-- where no owner has it, it is in no queue
pub not_queued : (h : List Event) (o : Owner) (t : ℕ) → queued_in h t ≡ None → is_in t (queue h o) ≡ false
unfolding queued_in pushed
not_queued h o t none = go (is_in t (queue h o)) refl
  where
    go : (b : Bool) → is_in t (queue h o) ≡ b → b ≡ false
    go true there = absurd (none_some (find (λ p. is_in t (queue h p)) (filter_map (owner_by t) h)) none (find_owner (λ p. is_in t (queue h p)) t o there h (queued_pushed h o t there)))
    go false there = refl

worker_here : (w t : ℕ) (e : Event) → out_by w e ≡ Some t → worker_by t e ≡ Some w
worker_here w t (Out u v) is =
    let same = number_if_is (w == v) u t is in
    rw (eq-eqb u t same.1) (ap Some (sym (eqb-true w v same.0)))
worker_here w t _ is = absurd cc

find_worker : (p : ℕ → Bool) (t w : ℕ) → p w ≡ true → (h : List Event) → is_in t (stack h w) ≡ true → is_some (find p (filter_map (worker_by t) h)) ≡ true
unfolding stack
find_worker p t w passes [] there = absurd cc
find_worker p t w passes (e ∷ h) there =
    ⊎_elim
    (λ is. find_here p w (worker_by t e) (filter_map (worker_by t) h) passes (worker_here w t e is))
    (λ rest. find_later p (worker_by t e) (filter_map (worker_by t) h) (find_worker p t w passes h rest))
    (unless_cases t (out_by w e) (ended h w) (stack h w) there)

pub not_held : (h : List Event) (w t : ℕ) → held_by h t ≡ None → is_in t (stack h w) ≡ false
unfolding held_by
not_held h w t none = go (is_in t (stack h w)) refl
  where
    go : (b : Bool) → is_in t (stack h w) ≡ b → b ≡ false
    go true there = absurd (none_some (find (λ v. is_in t (stack h v)) (filter_map (worker_by t) h)) none (find_worker (λ v. is_in t (stack h v)) t w there h there))
    go false there = refl

find_false : {A : Type 0} (p : A → Bool) (xs : List A) → ((x : A) → p x ≡ false) → find p xs ≡ None
find_false p [] none = refl
find_false p (x ∷ xs) none = rw (none x) (find_false p xs none)

-- what is in no queue has no owner that has it, and what is on no stack no worker
pub no_owner : (h : List Event) (t : ℕ) → ((o : Owner) → is_in t (queue h o) ≡ false) → queued_in h t ≡ None
unfolding queued_in
no_owner h t none = find_false (λ o. is_in t (queue h o)) (filter_map (owner_by t) h) none

pub no_worker_has : (h : List Event) (t : ℕ) → ((w : ℕ) → is_in t (stack h w) ≡ false) → held_by h t ≡ None
unfolding held_by
no_worker_has h t none = find_false (λ w. is_in t (stack h w)) (filter_map (worker_by t) h) none

-- ---- what one more event does to a task that was accepted before

-- a queue gains no task that was accepted before
pub queue_gains : (pool : Pool) (h : List Event) (e : Event) (o : Owner) (t : ℕ) → AllowedFrom pool [] h → Allowed pool h e → is_in t (tasks h) ≡ true → is_in t (queue (h ++ e ∷ []) o) ≡ true → is_in t (queue h o) ≡ true
queue_gains pool h e o t so may known there = in_queue h o t old (untaken (is_in t (taken h)) refl)
  where
    old : is_in t (pushed h o) ≡ true
    old = ⊎_elim (λ h. h) (λ new. absurd (true≢false (sym known ∙ is_new pool h e t so may (pushed_accepts o e t new))))
        (is_in_with t (pushed h o) (pushed_by o e) (rw pushed_more at (queued_pushed (h ++ e ∷ []) o t there)))

    untaken : (b : Bool) → is_in t (taken h) ≡ b → is_in t (taken h) ≡ false
    untaken true is =
        absurd (true≢false (sym (rw (taken_more, is_in_append t (taken h) (cons_option (taken_by e) []), is) refl) ∙ queued_fresh (h ++ e ∷ []) o t there))
    untaken false is = is

-- a stack gains no task that is in no queue
stack_gains : (pool : Pool) (h : List Event) (e : Event) (w t : ℕ) → Allowed pool h e → ((o : Owner) → is_in t (queue h o) ≡ false) → is_in t (stack (h ++ e ∷ []) w) ≡ true → is_in t (stack h w) ≡ true
stack_gains pool h e w t may nowhere there =
    ⊎_elim
    (λ old. (and_parts (is_in t (stack h w)) (not (is_in t (cons_option (ended_by w e) []))) (sym (is_in_filter (λ u. not (is_in u (cons_option (ended_by w e) []))) t (stack h w)) ∙ old)).0)
    (λ new. let c = take_chosen pool h e t may (out_takes w e t new) in absurd (true≢false (sym (chosen_queued pool.mode h t c) ∙ nowhere c.0)))
    (is_in_with t (without (stack h w) (cons_option (ended_by w e) [])) (out_by w e) (rw stack_more at there))

-- a task is in no queue, on no stack and not open
pub record IsNowhere (h : List Event) (t : ℕ) : Type 0 where
  pub queues : (o : Owner) → is_in t (queue h o) ≡ false
  pub stacks : (w : ℕ) → is_in t (stack h w) ≡ false
  pub shut : (is_completer h t && is_in t (opened h) && not (is_spent h t)) ≡ false

pub gone_nowhere : (h : List Event) (t : ℕ) → is_gone (place h t) ≡ true → IsNowhere h t
unfolding place
gone_nowhere h t gone = go (queued_in h t) (held_by h t) (is_completer h t && is_in t (opened h) && not (is_spent h t)) refl refl refl gone
  where
    go : (q : Option Owner) (v : Option ℕ) (b : Bool) → queued_in h t ≡ q → held_by h t ≡ v → (is_completer h t && is_in t (opened h) && not (is_spent h t)) ≡ b → is_gone (place_of q v b) ≡ true → IsNowhere h t
    go (Some o) v b qs vs bs gone = absurd cc
    go None (Some w) b qs vs bs gone = absurd cc
    go None None true qs vs bs gone = absurd cc
    go None None false qs vs bs gone = record { queues = λ o. not_queued h o t qs; stacks = λ w. not_held h w t vs; shut = bs }

pub nowhere_gone : (h : List Event) (t : ℕ) → IsNowhere h t → is_gone (place h t) ≡ true
unfolding place
nowhere_gone h t nowhere = rw (no_owner h t nowhere.queues, no_worker_has h t nowhere.stacks, nowhere.shut) refl

list_any_append : (p : Event → Bool) (xs ys : List Event) → list_any p xs ≡ true → list_any p (xs ++ ys) ≡ true
list_any_append p [] ys is = absurd cc
list_any_append p (x ∷ xs) ys is = ⊎_elim (λ here. rw here refl) (λ later. or_right (p x) (list_any p (xs ++ ys)) (list_any_append p xs ys later)) (or_cases (p x) (list_any p xs) is)

done_stays : (h : List Event) (e : Event) (t : ℕ) → is_undone (status h t) ≡ false → is_undone (status (h ++ e ∷ []) t) ≡ false
unfolding status
done_stays h e t done = ap is_undone (status_more h t e) ∙ go (status_from t false h) done
  where
    go : (o : Option Status) → is_undone (or_undone o) ≡ false → is_undone (or_undone (or_else o (status_by t (list_any (accepts t) h) e))) ≡ false
    go None done = absurd cc
    go (Some s) done = done

pub spent_stays : (h : List Event) (e : Event) (t : ℕ) → is_spent h t ≡ true → is_spent (h ++ e ∷ []) t ≡ true
unfolding is_spent
spent_stays h e t spent =
    ⊎_elim
    (λ fired. rw (list_any_append (fires_or_passes t) h (e ∷ []) fired) refl)
    (λ done. or_right (list_any (fires_or_passes t) (h ++ e ∷ [])) (not (is_undone (status (h ++ e ∷ []) t))) (ap not (done_stays h e t (not-true (is_undone (status h t)) done))))
    (or_cases (list_any (fires_or_passes t) h) (not (is_undone (status h t))) spent)

opened_new : (pool : Pool) (h : List Event) (e : Event) (t : ℕ) → Allowed pool h e → opened_by e ≡ Some t → (accepted_by e ≡ Some t) ⊎ ((w : ℕ) × (is_in t (stack h w) ≡ true))
opened_new pool h (Make u k) t may is = inl is
opened_new pool h (End u w) t may is = inr (w, get_is_in t (stack h w) (length (stack h w) - 1) (may.0 ∙ is))
opened_new pool h _ t may is = absurd cc

open_gains : (pool : Pool) (h : List Event) (e : Event) (t : ℕ) → AllowedFrom pool [] h → Allowed pool h e → is_in t (tasks h) ≡ true → ((w : ℕ) → is_in t (stack h w) ≡ false) → is_in t (opened (h ++ e ∷ [])) ≡ true → is_in t (opened h) ≡ true
open_gains pool h e t so may known nowhere there =
    ⊎_elim (λ old. old)
    (λ new. ⊎_elim
    (λ fresh. absurd (true≢false (sym known ∙ is_new pool h e t so may fresh)))
    (λ held. absurd (true≢false (sym held.1 ∙ nowhere held.0)))
    (opened_new pool h e t may new))
    (is_in_with t (opened h) (opened_by e) (rw opened_more at there))

not_gained : (b c : Bool) → (c ≡ true → b ≡ true) → b ≡ false → c ≡ false
not_gained b true gains is = absurd (true≢false (sym (gains refl) ∙ is))
not_gained b false gains is = refl

shut_stays : (c o s c' o' s' : Bool) → c' ≡ c → (o' ≡ true → o ≡ true) → (s ≡ true → s' ≡ true) → (c && o && not s) ≡ false → (c' && o' && not s') ≡ false
shut_stays c o s c' o' s' same gains stays shut = rw same (go c o s o' gains stays shut)
  where
    go : (c o s o' : Bool) → (o' ≡ true → o ≡ true) → (s ≡ true → s' ≡ true) → (c && o && not s) ≡ false → (c && o' && not s') ≡ false
    go false o s o' gains stays shut = refl
    go true o s false gains stays shut = refl
    go true true true true gains stays shut = rw (stays refl) refl
    go true true false true gains stays shut = absurd cc
    go true false s true gains stays shut = absurd (true≢false (sym (gains refl)))

-- a gone task stays gone
pub gone_stays : (pool : Pool) (h : List Event) (e : Event) (t : ℕ) → AllowedFrom pool [] h → Allowed pool h e → is_in t (tasks h) ≡ true → is_gone (place h t) ≡ true → is_gone (place (h ++ e ∷ []) t) ≡ true
gone_stays pool h e t so may known gone =
    let was = gone_nowhere h t gone in
    nowhere_gone (h ++ e ∷ []) t (record {
      queues = λ o. not_gained (is_in t (queue h o)) (is_in t (queue (h ++ e ∷ []) o)) (queue_gains pool h e o t so may known) (was.queues o);
      stacks = λ w. not_gained (is_in t (stack h w)) (is_in t (stack (h ++ e ∷ []) w)) (stack_gains pool h e w t may was.queues) (was.stacks w);
      shut = shut_stays (is_completer h t) (is_in t (opened h)) (is_spent h t) (is_completer (h ++ e ∷ []) t) (is_in t (opened (h ++ e ∷ []))) (is_spent (h ++ e ∷ []) t)
          (completer_still h e t (not_new pool h e t so may known)) (open_gains pool h e t so may known was.stacks) (spent_stays h e t) was.shut;
    })

-- ---- the list of gone tasks

abbrev pub IsGoneOnce : List Event → Type 0
IsGoneOnce h = (t : ℕ) → times_in t (gone h) ≡ cond (is_in t (tasks h) && is_gone (place h t)) 1 0

-- a list with no number twice has each of its members once
pub once_times : (t : ℕ) (xs : List ℕ) → Once xs → times_in t xs ≡ cond (is_in t xs) 1 0
once_times t xs once = go (is_in t xs) refl
  where
    go : (b : Bool) → is_in t xs ≡ b → times_in t xs ≡ cond b 1 0
    go true is = omega (arith, once t, times_in_some t xs is)
    go false is = times_in_none t xs is

gone_once_more : (pool : Pool) (h : List Event) (e : Event) → AllowedFrom pool [] h → IsGoneOnce h → Allowed pool h e → IsGoneOnce (h ++ e ∷ [])
unfolding newly_gone
gone_once_more pool h e so once may t =
    ap (times_in t) (gone_more h e)
    ∙ times_in_append t (gone h) (filter new (tasks h'))
    ∙ ap (λ n. times_in t (gone h) + n) (times_in_filter new t (tasks h') ∙ ap (λ n. cond (new t) n 0) (once_times t (tasks h') (tasks_once pool h' (allowed_more pool [] h e so may))))
    ∙ go (is_in t (gone h)) refl
  where
    h' : List Event
    h' = h ++ e ∷ []

    new : ℕ → Bool
    new = λ u. is_gone (place h' u) && not (is_in u (gone h))

    cases : (g a : Bool) → 0 + cond (g && true) (cond a 1 0) 0 ≡ cond (a && g) 1 0
    cases true true = refl
    cases true false = refl
    cases false true = refl
    cases false false = refl

    both : (b : Bool) → (is_in t (tasks h) && is_gone (place h t)) ≡ b → 1 ≤ cond b 1 0 → b ≡ true
    both true is le = refl
    both false is le = absurd (omega arith)

    go : (b : Bool) → is_in t (gone h) ≡ b → times_in t (gone h) + cond (new t) (cond (is_in t (tasks h')) 1 0) 0 ≡ cond (is_in t (tasks h') && is_gone (place h' t)) 1 0
    go true is =
        let was : (is_in t (tasks h) && is_gone (place h t)) ≡ true = both (is_in t (tasks h) && is_gone (place h t)) refl (omega (arith, once t, times_in_some t (gone h) is)) in
        let parts = and_parts (is_in t (tasks h)) (is_gone (place h t)) was in
        let one : times_in t (gone h) ≡ 1 = once t ∙ rw was refl in
        rw (one, is, gone_stays pool h e t so may parts.0 parts.1, known_more h e t parts.0) refl
    go false is = rw (times_in_none t (gone h) is, is) (cases (is_gone (place h' t)) (is_in t (tasks h')))

gone_none : IsGoneOnce []
unfolding gone gone_from tasks
gone_none t = refl

-- each gone task stands in the list of gone tasks once, and nothing else does
pub gone_once : (pool : Pool) (h : List Event) → AllowedFrom pool [] h → IsGoneOnce h
gone_once pool = by_events pool IsGoneOnce gone_none (gone_once_more pool)
