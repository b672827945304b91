-- Which bodies no worker holds, event by event.
use Rattle.std.proofs.Common.{ℕ, ◌≡◌, ◌≤◌, ◌&&◌, ◌||◌, Bool, true, false, List, [], ◌∷◌, ◌++◌, Option, Some, None, refl, ap, sym, ◌∙◌, subst, arith}
use Rattle.std.specs.Prelude.{if◌then◌else◌, ◌==◌, is_some, not}
use Rattle.std.specs.List.{cons_option, filter}
use Rattle.std.proofs.Math.Bool.{and-false, or-true}
use Rattle.std.proofs.lemmas.Bool.{eq-eqb, eqb-true, and_parts, true≢false}
use Rattle.fj_rules.specs.declared.event.Event.{Event}
use Rattle.fj_rules.specs.declared.event.Event.TheVariants.{Acc, Make, Out, Skip}
use Rattle.fj_rules.specs.declared.owner.Owner.{Owner}
use Rattle.fj_rules.specs.declared.kind.Kind.{Kind}
use Rattle.fj_rules.specs.declared.place.Place.{Place}
use Rattle.fj_rules.specs.declared.place.Place.TheVariants.{Queued, Held, Open, Gone}
use Rattle.fj_rules.specs.Bounds.{Pool}
use Rattle.fj_rules.specs.Lists.{is_in, without}
use Rattle.fj_rules.specs.Tasks.{tasks, accepted_by, is_kept, live}
use Rattle.fj_rules.specs.Queues.{taken_by}
use Rattle.fj_rules.specs.Completers.{is_spent}
use Rattle.fj_rules.specs.Places.{place, is_gone}
use Rattle.fj_rules.specs.Allowed.{Allowed, AllowedFrom}
use Rattle.fj_rules.proofs.Lists.Members.{is_in_append, is_in_filter, times_in_some, length_without}
use Rattle.fj_rules.proofs.Events.Growth.{tasks_more, or_false}
use Rattle.fj_rules.proofs.Events.Lawful.{is_new}
use Rattle.fj_rules.proofs.Places.FewLive.{few_live}
use Rattle.fj_rules.proofs.Places.KeptPlaces.{ungone_kept}
use Rattle.fj_rules.proofs.Events.NewTasks.{accepting_place, submitted_place, made_place}
use Rattle.fj_rules.proofs.Events.Taking.{taking_place, handed_place, skipped_place}
use Rattle.fj_rules.proofs.Events.KindsKept.{kept_known}
use Rattle.fj_slots.specs.Shelves.{Entries, is_there, with_entry, without_entry, AreFewer}
use Rattle.fj_body.specs.Stores.{is_waiting, has_body, HoldsBodies}

waiting_ungone : (p : Place) → is_waiting p ≡ true → is_gone p ≡ false
waiting_ungone (Queued o) is = refl
waiting_ungone (Held w) is = refl
waiting_ungone Open is = refl
waiting_ungone Gone is = absurd cc

pub has_kept : (pool : Pool) (h : List Event) (t : ℕ) → AllowedFrom pool [] h → has_body h t ≡ true → is_kept h t ≡ true
unfolding has_body
has_kept pool h t so has =
    let both = and_parts (is_in t (tasks h)) (is_waiting (place h t)) has in ungone_kept pool h t so both.0 (waiting_ungone (place h t) both.1)

-- ---- one event more

known_more : (h : List Event) (e : Event) (u : ℕ) → is_in u (tasks (h ++ e ∷ [])) ≡ is_in u (tasks h) || is_in u (cons_option (accepted_by e) [])
known_more h e u = rw tasks_more (is_in_append u (tasks h) (cons_option (accepted_by e) []))

-- the same tasks are known, and this one waits as before
pub same_body : (h h' : List Event) (u : ℕ) → is_in u (tasks h') ≡ is_in u (tasks h) → (is_in u (tasks h) ≡ true → is_waiting (place h' u) ≡ is_waiting (place h u)) → has_body h' u ≡ has_body h u
unfolding has_body
same_body h h' u known same = rw known (go (is_in u (tasks h)) refl)
  where
    go : (b : Bool) → is_in u (tasks h) ≡ b → (b && is_waiting (place h' u)) ≡ (b && is_waiting (place h u))
    go true is = same is
    go false is = refl

-- a task is accepted, and waits
new_body : (pool : Pool) (h : List Event) (e : Event) (t u : ℕ) → AllowedFrom pool [] h → Allowed pool h e → accepted_by e ≡ Some t → is_waiting (place (h ++ e ∷ []) t) ≡ true
    → has_body (h ++ e ∷ []) u ≡ (if t == u then true else has_body h u)
unfolding has_body
new_body pool h e t u so may is waits = go (t == u) refl
  where
    here : has_body (h ++ e ∷ []) t ≡ true
    here = rw (known_more h e t, is, eq-eqb t t refl, waits, or-true (is_in t (tasks h))) refl

    go : (b : Bool) → (t == u) ≡ b → has_body (h ++ e ∷ []) u ≡ (if b then true else has_body h u)
    go true at = subst (λ v. has_body (h ++ e ∷ []) v ≡ true) (eqb-true t u at) here
    go false at = same_body h (h ++ e ∷ []) u (known_more h e u ∙ rw (is, at) (or_false (is_in u (tasks h)))) (λ known. ap is_waiting (accepting_place pool h e t u so may is known))

pub accept_holds : {B : Type 0} (pool : Pool) (h : List Event) (e : Event) (t : ℕ) (bodies : Entries B) (x : B) → AllowedFrom pool [] h → Allowed pool h e → accepted_by e ≡ Some t → is_waiting (place (h ++ e ∷ []) t) ≡ true
    → HoldsBodies h bodies → HoldsBodies (h ++ e ∷ []) (with_entry bodies t x)
accept_holds pool h e t bodies x so may is waits holds u = rw (new_body pool h e t u so may is waits) (go (t == u))
  where
    go : (b : Bool) → is_some (if b then Some x else bodies u) ≡ (if b then true else has_body h u)
    go true = refl
    go false = holds u

-- a task is accepted into a queue
pub accept_bodies : {B : Type 0} (pool : Pool) (h : List Event) (t : ℕ) (o : Owner) (k : Kind) (bodies : Entries B) (x : B) → AllowedFrom pool [] h → Allowed pool h (Acc t o k) → HoldsBodies h bodies
    → HoldsBodies (h ++ Acc t o k ∷ []) (with_entry bodies t x)
accept_bodies pool h t o k bodies x so may = accept_holds pool h (Acc t o k) t bodies x so may refl (ap is_waiting (submitted_place pool h t o k so may))

-- a trigger is made
pub make_bodies : {B : Type 0} (pool : Pool) (h : List Event) (t : ℕ) (k : Kind) (bodies : Entries B) (x : B) → AllowedFrom pool [] h → Allowed pool h (Make t k) → is_spent h t ≡ false → HoldsBodies h bodies
    → HoldsBodies (h ++ Make t k ∷ []) (with_entry bodies t x)
make_bodies pool h t k bodies x so may unspent = accept_holds pool h (Make t k) t bodies x so may refl (ap is_waiting (made_place pool h t k so may unspent))

-- nothing stands under the number of a task that is accepted only now
pub new_free : {B : Type 0} (pool : Pool) (h : List Event) (e : Event) (t : ℕ) (bodies : Entries B) → AllowedFrom pool [] h → Allowed pool h e → accepted_by e ≡ Some t → HoldsBodies h bodies → bodies t ≡ None
unfolding has_body
new_free {B} pool h e t bodies so may is holds = nothing (bodies t) (holds t ∙ rw (is_new pool h e t so may is) refl)
  where
    nothing : (o : Option B) → is_some o ≡ false → o ≡ None
    nothing None none = refl
    nothing (Some x) none = absurd cc

-- ---- a task leaves its queue

taken_body : (pool : Pool) (h : List Event) (e : Event) (t u : ℕ) → AllowedFrom pool [] h → Allowed pool h e → taken_by e ≡ Some t → accepted_by e ≡ None → is_waiting (place (h ++ e ∷ []) t) ≡ false
    → has_body (h ++ e ∷ []) u ≡ (if t == u then false else has_body h u)
unfolding has_body
taken_body pool h e t u so may is none waits = go (t == u) refl
  where
    same_known : (v : ℕ) → is_in v (tasks (h ++ e ∷ [])) ≡ is_in v (tasks h)
    same_known v = known_more h e v ∙ rw none (or_false (is_in v (tasks h)))

    here : has_body (h ++ e ∷ []) t ≡ false
    here = rw waits (and-false (is_in t (tasks (h ++ e ∷ []))))

    go : (b : Bool) → (t == u) ≡ b → has_body (h ++ e ∷ []) u ≡ (if b then false else has_body h u)
    go true at = subst (λ v. has_body (h ++ e ∷ []) v ≡ false) (eqb-true t u at) here
    go false at =
        same_body h (h ++ e ∷ []) u (same_known u) (λ known. ap is_waiting (taking_place pool h e t u so may is (λ same. true≢false (sym (eq-eqb t u (sym same)) ∙ at)) known))

taken_holds : {B : Type 0} (pool : Pool) (h : List Event) (e : Event) (t : ℕ) (bodies : Entries B) → AllowedFrom pool [] h → Allowed pool h e → taken_by e ≡ Some t → accepted_by e ≡ None → is_waiting (place (h ++ e ∷ []) t) ≡ false
    → HoldsBodies h bodies → HoldsBodies (h ++ e ∷ []) (without_entry bodies t)
taken_holds pool h e t bodies so may is none waits holds u = rw (taken_body pool h e t u so may is none waits) (go (t == u))
  where
    go : (b : Bool) → is_some (if b then None else bodies u) ≡ (if b then false else has_body h u)
    go true = refl
    go false = holds u

pub out_bodies : {B : Type 0} (pool : Pool) (h : List Event) (t w : ℕ) (bodies : Entries B) → AllowedFrom pool [] h → Allowed pool h (Out t w) → HoldsBodies h bodies → HoldsBodies (h ++ Out t w ∷ []) (without_entry bodies t)
out_bodies pool h t w bodies so may = taken_holds pool h (Out t w) t bodies so may refl refl (ap is_waiting (handed_place pool h t w so may))

pub skip_bodies : {B : Type 0} (pool : Pool) (h : List Event) (t w : ℕ) (bodies : Entries B) → AllowedFrom pool [] h → Allowed pool h (Skip t w) → HoldsBodies h bodies → HoldsBodies (h ++ Skip t w ∷ []) (without_entry bodies t)
skip_bodies pool h t w bodies so may = taken_holds pool h (Skip t w) t bodies so may refl refl (ap is_waiting (skipped_place pool h t w so may))

-- ---- room

-- where all that stands is kept, and one kept task has nothing, there are fewer entries than tasks that may be kept
pub fewer_kept : {X : Type 0} (pool : Pool) (h : List Event) (all : Entries X) (t room : ℕ) → AllowedFrom pool [] h → ((u : ℕ) → is_there all u ≡ true → is_kept h u ≡ true) → is_kept h t ≡ true → all t ≡ None
    → pool.limits.tasks ≤ room → AreFewer all room
unfolding live
fewer_kept {X} pool h all t room so kept here none within =
    (without ns (t ∷ []), omega (arith, within, few_live pool h so, length_without t ns, times_in_some t ns there), others)
  where
    ns : List ℕ
    ns = filter (is_kept h) (tasks h)

    there : is_in t (filter (is_kept h) (tasks h)) ≡ true
    there = is_in_filter (is_kept h) t (tasks h) ∙ rw (kept_known h t here, here) refl

    others : (u : ℕ) → is_there all u ≡ true → is_in u (without (filter (is_kept h) (tasks h)) (t ∷ [])) ≡ true
    others u stands =
        is_in_filter (λ v. not (is_in v (t ∷ []))) u (filter (is_kept h) (tasks h)) ∙ rw (is_in_filter (is_kept h) u (tasks h), kept_known h u (kept u stands), kept u stands) (go (t == u) refl)
      where
        go : (b : Bool) → (t == u) ≡ b → not (b || false) ≡ true
        go false at = refl
        go true at = absurd (true≢false (sym stands ∙ ap (is_there all) (sym (eqb-true t u at)) ∙ ap is_some none))
