-- What holds of each history whose events were allowed, by induction on its events.
use Rattle.std.proofs.Common.{ℕ, ◌≡◌, ◌+◌, ◌≤◌, Bool, true, false, cond, not, List, [], ◌∷◌, ◌++◌, length, Option, Some, None, refl, ap, sym, ◌∙◌, arith, subst, inl, inr, ⊎_elim, ◌⊎◌, zero-add, ◌-◌, append_assoc, length-append}
use Rattle.std.specs.Prelude.{◌==◌, nat_lt, slice_get}
use Rattle.std.specs.List.{filter, filter_map, cons_option}
use Rattle.std.proofs.lemmas.List.{append-nil}
use Rattle.std.proofs.lemmas.Bool.{eqb-true, eq-eqb, and_parts, or_cases, or_right, not-true, true≢false, le-ltb}
use Rattle.std.proofs.lemmas.Bool.Decides.{nat_tests}
use Rattle.fj_rules.specs.declared.event.Event.{Event}
use Rattle.fj_rules.specs.declared.event.Event.TheVariants.{Acc, Make, Out, Skip}
use Rattle.fj_rules.specs.declared.owner.Owner.{Owner}
use Rattle.fj_rules.specs.declared.owner.Owner.TheVariants.{Sub, Work}
use Rattle.fj_rules.specs.declared.mode.Mode.TheVariants.{Async, Joining}
use Rattle.fj_rules.specs.Bounds.{Pool}
use Rattle.fj_rules.specs.Lists.{is_in, or_else, number_if, first_of, times_in}
use Rattle.fj_rules.specs.Tasks.{tasks, accepted_by, accepted}
use Rattle.fj_rules.specs.Queues.{is_same, pushed, pushed_by, taken, taken_by, left, queue}
use Rattle.fj_rules.specs.Choices.{choice, own_choice, first_queued, scan_order}
use Rattle.fj_rules.specs.Allowed.{Allowed, AllowedFrom}
use Rattle.fj_rules.specs.Headline.{handed_out_by, handed_out, keeps_order, IsHandedOutOnce, LeftInOrder}
use mathlib.Core.List.{IsPrefix}
use Rattle.std.proofs.lemmas.List.Elements.{filter-append}
use Rattle.fj_rules.specs.declared.mode.Mode.{Mode}
use Rattle.fj_rules.proofs.Lists.Members.{is_in_append, times_in_cons, is_in_filter, filter_agree_in, first_is_in, get_is_in, Once, once_more, without_front, first_then}
use Rattle.fj_rules.proofs.Events.Growth.{with, or_false, tasks_more, pushed_more, taken_more, filter_map_more}

-- one more event that is allowed
pub allowed_more : (pool : Pool) (before h : List Event) (e : Event) → AllowedFrom pool before h → Allowed pool (before ++ h) e → AllowedFrom pool before (h ++ e ∷ [])
allowed_more pool before [] e so may = (rw append-nil at may, tt)
allowed_more pool before (f ∷ h) e so may =
    (so.0, allowed_more pool (before ++ f ∷ []) h e so.1 (rw append_assoc may))

-- what holds of the empty history, and of each with one more allowed event, holds of all
along : (pool : Pool) (P : List Event → Type 0)
    → ((h : List Event) (e : Event) → AllowedFrom pool [] h → P h → Allowed pool h e → P (h ++ e ∷ []))
    → (before later : List Event) → AllowedFrom pool [] before → P before → AllowedFrom pool before later → P (before ++ later)
along pool P more before [] so p rest = rw append-nil p
along pool P more before (e ∷ later) so p rest =
    let next = along pool P more (before ++ e ∷ []) later (allowed_more pool [] before e so rest.0) (more before e so p rest.0) rest.1 in
    rw append_assoc at next

pub by_events : (pool : Pool) (P : List Event → Type 0) → P []
    → ((h : List Event) (e : Event) → AllowedFrom pool [] h → P h → Allowed pool h e → P (h ++ e ∷ []))
    → (h : List Event) → AllowedFrom pool [] h → P h
by_events pool P none more h all = along pool P more [] h tt none all

-- where each event names a number afresh, each is named at most once
pub named_once : (pool : Pool) (says : Event → Option ℕ)
    → ((h : List Event) (e : Event) (t : ℕ) → AllowedFrom pool [] h → Allowed pool h e → says e ≡ Some t → is_in t (filter_map says h) ≡ false)
    → (h : List Event) → AllowedFrom pool [] h → Once (filter_map says h)
named_once pool says fresh = by_events pool (λ h. Once (filter_map says h)) (λ t. omega arith) (λ h e. more h e (says e) refl)
  where
    more : (h : List Event) (e : Event) (said : Option ℕ) → says e ≡ said → AllowedFrom pool [] h → Once (filter_map says h) → Allowed pool h e → Once (filter_map says (h ++ e ∷ []))
    more h e None is so once may = rw (filter_map_more says h e, is, append-nil) once
    more h e (Some u) is so once may = rw (filter_map_more says h e, is) (once_more (filter_map says h) u (fresh h e u so may is) once)

-- ---- the accepted tasks are the numbers from 0

pub accept_number : (pool : Pool) (h : List Event) (e : Event) (t : ℕ) → Allowed pool h e → accepted_by e ≡ Some t → t ≡ accepted h
accept_number pool h (Acc u o k) t may is = let same : u ≡ t = cc in sym same ∙ may.0.number
accept_number pool h (Make u k) t may is = let same : u ≡ t = cc in sym same ∙ may.0.number
accept_number pool h _ t may is = absurd cc

abbrev IsNumbered : List Event → Type 0
IsNumbered h = (t : ℕ) → is_in t (tasks h) ≡ nat_lt t (accepted h)

one_more_number : (ts : List ℕ) (n t : ℕ) → n ≡ length ts → is_in t ts ≡ nat_lt t (length ts) → is_in t (ts ++ n ∷ []) ≡ nat_lt t (length (ts ++ n ∷ []))
one_more_number ts n t is before = rw (is_in_append, before, length-append, is) (grind (arith, nat_tests))

numbered_more : (pool : Pool) (h : List Event) (e : Event) (said : Option ℕ) → accepted_by e ≡ said → AllowedFrom pool [] h → IsNumbered h → Allowed pool h e → IsNumbered (h ++ e ∷ [])
unfolding accepted
numbered_more pool h e None is so numbered may t = rw (tasks_more, is, append-nil) (numbered t)
numbered_more pool h e (Some u) is so numbered may t =
    rw (tasks_more, is) (one_more_number (tasks h) u t (accept_number pool h e u may is) (numbered t))

numbered_none : IsNumbered []
unfolding tasks accepted
numbered_none t = sym (le-ltb t 0 (omega arith))

pub is_numbered : (pool : Pool) (h : List Event) → AllowedFrom pool [] h → IsNumbered h
is_numbered pool = by_events pool IsNumbered numbered_none (λ h e. numbered_more pool h e (accepted_by e) refl)

-- ---- what one selection of events has, a wider one has too

-- a number that is there is there in the one list or in the other
pub is_in_with : (t : ℕ) (ts : List ℕ) (said : Option ℕ) → is_in t (with ts said) ≡ true → (is_in t ts ≡ true) ⊎ (said ≡ Some t)
is_in_with t ts None there = inl (rw append-nil at there)
is_in_with t ts (Some u) there =
    ⊎_elim (λ h. inl h) (λ h. inr (ap Some (eqb-true u t (⊎_elim (λ here. here) (λ none. absurd cc) (or_cases (u == t) false h))))) (or_cases (is_in t ts) (is_in t (u ∷ [])) (rw is_in_append at there))

pub front_cases : (t : ℕ) (said : Option ℕ) (ts : List ℕ) → is_in t (cons_option said ts) ≡ true → (said ≡ Some t) ⊎ (is_in t ts ≡ true)
front_cases t None ts there = inr there
front_cases t (Some u) ts there = ⊎_elim (λ h. inl (ap Some (eqb-true u t h))) (λ h. inr h) (or_cases (u == t) (is_in t ts) there)

pub front_here : (t : ℕ) (said : Option ℕ) (ts : List ℕ) → said ≡ Some t → is_in t (cons_option said ts) ≡ true
front_here t said ts is = rw is (rw (eq-eqb t t refl) refl)

pub front_rest : (t : ℕ) (said : Option ℕ) (ts : List ℕ) → is_in t ts ≡ true → is_in t (cons_option said ts) ≡ true
front_rest t None ts there = there
front_rest t (Some u) ts there = or_right (u == t) (is_in t ts) there

pub filter_map_within : (f g : Event → Option ℕ) → ((e : Event) (t : ℕ) → f e ≡ Some t → g e ≡ Some t)
    → (t : ℕ) (h : List Event) → is_in t (filter_map f h) ≡ true → is_in t (filter_map g h) ≡ true
filter_map_within f g wider t [] there = there
filter_map_within f g wider t (e ∷ h) there =
    ⊎_elim (λ is. front_here t (g e) (filter_map g h) (wider e t is)) (λ rest. front_rest t (g e) (filter_map g h) (filter_map_within f g wider t h rest)) (front_cases t (f e) (filter_map f h) there)

abbrev pub said_times : ℕ → Option ℕ → ℕ
said_times t None = 0
said_times t (Some u) = cond (u == t) 1 0

pub front_times : (t : ℕ) (said : Option ℕ) (ts : List ℕ) → times_in t (cons_option said ts) ≡ said_times t said + times_in t ts
front_times t None ts = sym (zero-add (times_in t ts))
front_times t (Some u) ts = times_in_cons t u ts

pub said_fewer : (t : ℕ) (a b : Option ℕ) → ((u : ℕ) → a ≡ Some u → b ≡ Some u) → said_times t a ≤ said_times t b
said_fewer t None b wider = omega arith
said_fewer t (Some u) b wider = rw (wider u refl) (omega arith)

pub filter_map_fewer : (f g : Event → Option ℕ) → ((e : Event) (t : ℕ) → f e ≡ Some t → g e ≡ Some t)
    → (t : ℕ) (h : List Event) → times_in t (filter_map f h) ≤ times_in t (filter_map g h)
filter_map_fewer f g wider t [] = omega arith
filter_map_fewer f g wider t (e ∷ h) =
    omega (arith, front_times t (f e) (filter_map f h), front_times t (g e) (filter_map g h), said_fewer t (f e) (g e) (wider e), filter_map_fewer f g wider t h)

-- ---- what is pushed is accepted, each task into one queue

pub number_if_is : (b : Bool) (u t : ℕ) → number_if b u ≡ Some t → (b ≡ true) × (u ≡ t)
number_if_is true u t is = (refl, cc)
number_if_is false u t is = absurd cc

pub pushed_accepts : (o : Owner) (e : Event) (t : ℕ) → pushed_by o e ≡ Some t → accepted_by e ≡ Some t
pushed_accepts o (Acc u p k) t is = ap Some (number_if_is (is_same o p) u t is).1
pushed_accepts o _ t is = absurd cc

pub pushed_known : (h : List Event) (o : Owner) (t : ℕ) → is_in t (pushed h o) ≡ true → is_in t (tasks h) ≡ true
unfolding pushed tasks
pushed_known h o t = filter_map_within (pushed_by o) accepted_by (pushed_accepts o) t h

pub is_new : (pool : Pool) (h : List Event) (e : Event) (t : ℕ) → AllowedFrom pool [] h → Allowed pool h e → accepted_by e ≡ Some t → is_in t (tasks h) ≡ false
is_new pool h e t so may is = is_numbered pool h so t ∙ le-ltb t (accepted h) (omega (arith, accept_number pool h e t may is))

-- no event accepts a task again
pub not_new : (pool : Pool) (h : List Event) (e : Event) (t : ℕ) → AllowedFrom pool [] h → Allowed pool h e → is_in t (tasks h) ≡ true → accepted_by e ≡ Some t → ⊥
not_new pool h e t so may known new = true≢false (sym known ∙ is_new pool h e t so may new)

pub tasks_once : (pool : Pool) (h : List Event) → AllowedFrom pool [] h → Once (tasks h)
unfolding tasks
tasks_once pool = named_once pool accepted_by (is_new pool)

pub pushed_once : (pool : Pool) (h : List Event) (o : Owner) → AllowedFrom pool [] h → Once (pushed h o)
unfolding pushed tasks
pushed_once pool h o so t = omega (arith, filter_map_fewer (pushed_by o) accepted_by (pushed_accepts o) t h, tasks_once pool h so t)

pub same_owner : (o p : Owner) → is_same o p ≡ true → o ≡ p
same_owner (Sub s) (Sub t) is = ap Sub (eqb-true s t is)
same_owner (Work s) (Work t) is = ap Work (eqb-true s t is)
same_owner (Sub s) (Work t) is = absurd cc
same_owner (Work s) (Sub t) is = absurd cc

pub pushed_by_one : (o p : Owner) (e : Event) (t : ℕ) → pushed_by o e ≡ Some t → pushed_by p e ≡ Some t → o ≡ p
pushed_by_one o p (Acc u q k) t is also = same_owner o q (number_if_is (is_same o q) u t is).0 ∙ sym (same_owner p q (number_if_is (is_same p q) u t also).0)
pushed_by_one o p _ t is also = absurd cc

abbrev IsApart : List Event → Type 0
IsApart h = (t : ℕ) (o p : Owner) → is_in t (pushed h o) ≡ true → is_in t (pushed h p) ≡ true → o ≡ p

pub known_and_new : (pool : Pool) (h : List Event) (e : Event) (t : ℕ) (o p : Owner) → AllowedFrom pool [] h → Allowed pool h e → is_in t (pushed h o) ≡ true → pushed_by p e ≡ Some t → ⊥
known_and_new pool h e t o p so may there is = absurd (cc (pushed_known h o t there, is_new pool h e t so may (pushed_accepts p e t is)))

apart_more : (pool : Pool) (h : List Event) (e : Event) → AllowedFrom pool [] h → IsApart h → Allowed pool h e → IsApart (h ++ e ∷ [])
apart_more pool h e so apart may t o p there also =
    ⊎_elim
    (λ old. ⊎_elim (λ old'. apart t o p old old') (λ new. absurd (known_and_new pool h e t o p so may old new)) (is_in_with t (pushed h p) (pushed_by p e) (rw pushed_more at also)))
    (λ new. ⊎_elim (λ old. absurd (known_and_new pool h e t p o so may old new)) (λ new'. pushed_by_one o p e t new new') (is_in_with t (pushed h p) (pushed_by p e) (rw pushed_more at also)))
    (is_in_with t (pushed h o) (pushed_by o e) (rw pushed_more at there))

apart_none : IsApart []
unfolding pushed
apart_none t o p there also = absurd cc

pub pushed_apart : (pool : Pool) (h : List Event) → AllowedFrom pool [] h → IsApart h
pushed_apart pool = by_events pool IsApart apart_none (apart_more pool)

-- ---- what is taken was chosen from a queue

or_else_cases : (a b : Option ℕ) (t : ℕ) → or_else a b ≡ Some t → (a ≡ Some t) ⊎ (b ≡ Some t)
or_else_cases (Some u) b t is = inl is
or_else_cases None b t is = inr is

-- the task is the first of a queue, or any of one that keeps no order
abbrev pub IsChosen : Mode → List Event → ℕ → Type 0
IsChosen mode h t = (o : Owner) × ((first_of (queue h o) ≡ Some t) ⊎ ((keeps_order mode o ≡ false) × (is_in t (queue h o) ≡ true)))

first_queued_chosen : (mode : Mode) (h : List Event) (os : List Owner) (t : ℕ) → first_queued h os ≡ Some t → IsChosen mode h t
unfolding first_queued
first_queued_chosen mode h [] t is = absurd cc
first_queued_chosen mode h (o ∷ os) t is =
    ⊎_elim (λ here. (o, inl here)) (λ later. first_queued_chosen mode h os t later) (or_else_cases (first_of (queue h o)) (first_queued h os) t is)

own_chosen : (mode : Mode) (h : List Event) (w t : ℕ) → own_choice mode (queue h (Work w)) ≡ Some t → IsChosen mode h t
own_chosen Async h w t is = (Work w, inl is)
own_chosen Joining h w t is = (Work w, inr (refl, get_is_in t (queue h (Work w)) (length (queue h (Work w)) - 1) is))

pub choice_chosen : (pool : Pool) (h : List Event) (w r t : ℕ) → choice pool h w r ≡ Some t → IsChosen pool.mode h t
unfolding choice
choice_chosen pool h w r t is =
    ⊎_elim (own_chosen pool.mode h w t) (first_queued_chosen pool.mode h (scan_order pool.limits r) t)
    (or_else_cases (own_choice pool.mode (queue h (Work w))) (first_queued h (scan_order pool.limits r)) t is)

pub take_chosen : (pool : Pool) (h : List Event) (e : Event) (t : ℕ) → Allowed pool h e → taken_by e ≡ Some t → IsChosen pool.mode h t
take_chosen pool h (Out u w) t may is = choice_chosen pool h w may.0.chosen.0 t (may.0.chosen.2 ∙ ap Some cc)
take_chosen pool h (Skip u w) t may is = choice_chosen pool h w may.0.chosen.0 t (may.0.chosen.2 ∙ ap Some cc)
take_chosen pool h _ t may is = absurd cc

pub chosen_queued : (mode : Mode) (h : List Event) (t : ℕ) (c : IsChosen mode h t) → is_in t (queue h c.0) ≡ true
chosen_queued mode h t c = ⊎_elim (λ is. first_is_in t (queue h c.0) is) (λ any. any.1) c.1

-- what is queued was pushed there, and never taken
pub queued_pushed : (h : List Event) (o : Owner) (t : ℕ) → is_in t (queue h o) ≡ true → is_in t (pushed h o) ≡ true
unfolding queue
queued_pushed h o t there = (and_parts (is_in t (pushed h o)) (not (is_in t (left h o))) (sym (is_in_filter (λ u. not (is_in u (left h o))) t (pushed h o)) ∙ there)).0

pub queued_fresh : (h : List Event) (o : Owner) (t : ℕ) → is_in t (queue h o) ≡ true → is_in t (taken h) ≡ false
unfolding queue left
queued_fresh h o t there =
    let parts = and_parts (is_in t (pushed h o)) (not (is_in t (left h o))) (sym (is_in_filter (λ u. not (is_in u (left h o))) t (pushed h o)) ∙ there) in
    go (is_in t (taken h)) refl parts.0 (not-true (is_in t (left h o)) parts.1)
  where
    go : (b : Bool) → is_in t (taken h) ≡ b → is_in t (pushed h o) ≡ true → is_in t (left h o) ≡ false → b ≡ false
    go true is here gone = absurd (true≢false (sym (is_in_filter (λ u. is_in u (pushed h o)) t (taken h) ∙ rw (is, here) refl) ∙ gone))
    go false is here gone = refl

taken_fresh : (pool : Pool) (h : List Event) (e : Event) (t : ℕ) → Allowed pool h e → taken_by e ≡ Some t → is_in t (taken h) ≡ false
taken_fresh pool h e t may is = let c = take_chosen pool h e t may is in queued_fresh h c.0 t (chosen_queued pool.mode h t c)

pub taken_once : (pool : Pool) (h : List Event) → AllowedFrom pool [] h → Once (taken h)
unfolding taken
taken_once pool = named_once pool taken_by (λ h e t so. taken_fresh pool h e t)

abbrev IsTakenKnown : List Event → Type 0
IsTakenKnown h = (t : ℕ) → is_in t (taken h) ≡ true → is_in t (tasks h) ≡ true

pub known_more : (h : List Event) (e : Event) (t : ℕ) → is_in t (tasks h) ≡ true → is_in t (tasks (h ++ e ∷ [])) ≡ true
known_more h e t there = rw (tasks_more, is_in_append t (tasks h) (cons_option (accepted_by e) []), there) refl

taken_known_more : (pool : Pool) (h : List Event) (e : Event) → AllowedFrom pool [] h → IsTakenKnown h → Allowed pool h e → IsTakenKnown (h ++ e ∷ [])
taken_known_more pool h e so known may t there =
    known_more h e t (⊎_elim (known t)
    (λ new. let c = take_chosen pool h e t may new in pushed_known h c.0 t (queued_pushed h c.0 t (chosen_queued pool.mode h t c)))
    (is_in_with t (taken h) (taken_by e) (rw taken_more at there)))

taken_known_none : IsTakenKnown []
unfolding taken
taken_known_none t there = absurd cc

pub taken_known : (pool : Pool) (h : List Event) → AllowedFrom pool [] h → IsTakenKnown h
taken_known pool = by_events pool IsTakenKnown taken_known_none (taken_known_more pool)

-- ---- each task is handed out at most once

handed_takes : (e : Event) (t : ℕ) → handed_out_by e ≡ Some t → taken_by e ≡ Some t
handed_takes (Out u w) t is = is
handed_takes _ t is = absurd cc

pub handed_once : (pool : Pool) (h : List Event) → AllowedFrom pool [] h → IsHandedOutOnce h
unfolding handed_out taken
handed_once pool h so t = omega (arith, filter_map_fewer handed_out_by taken_by handed_takes t h, taken_once pool h so t)

-- ---- what left is a beginning of what was pushed

-- the members of the one list that are in the other
abbrev pub among : List ℕ → List ℕ → List ℕ
among ps ts = filter (λ t. is_in t ps) ts

among_push : (ps ts : List ℕ) (u : ℕ) → is_in u ts ≡ false → among (ps ++ u ∷ []) ts ≡ among ps ts
among_push ps ts u absent = filter_agree_in (λ t. is_in t (ps ++ u ∷ [])) (λ t. is_in t ps) ts (λ x there. is_in_append x ps (u ∷ []) ∙ rw (other x there (u == x) refl) (or_false (is_in x ps)))
  where
    other : (x : ℕ) → is_in x ts ≡ true → (b : Bool) → (u == x) ≡ b → b ≡ false
    other x there true is = absurd (true≢false (sym there ∙ ap (λ y. is_in y ts) (sym (eqb-true u x is)) ∙ absent))
    other x there false is = refl

pub left_push : (h : List Event) (e : Event) (o : Owner) (u : ℕ) → pushed_by o e ≡ Some u → taken_by e ≡ None → is_in u (taken h) ≡ false → left (h ++ e ∷ []) o ≡ left h o
unfolding left
left_push h e o u is none fresh = rw (pushed_more, is, taken_more, none, append-nil) (among_push (pushed h o) (taken h) u fresh)

pub left_take : (h : List Event) (e : Event) (o : Owner) (t : ℕ) → pushed_by o e ≡ None → taken_by e ≡ Some t → left (h ++ e ∷ []) o ≡ left h o ++ among (pushed h o) (t ∷ [])
unfolding left
left_take h e o t none is = rw (pushed_more, none, append-nil, taken_more, is) (filter-append (λ u. is_in u (pushed h o)) (taken h) (t ∷ []))

pub left_same : (h : List Event) (e : Event) (o : Owner) → pushed_by o e ≡ None → taken_by e ≡ None → left (h ++ e ∷ []) o ≡ left h o
unfolding left
left_same h e o none also = rw (pushed_more, none, append-nil, taken_more, also, append-nil) refl

-- what is left of a queue that kept its order so far
pub queue_rest : (pool : Pool) (h : List Event) (o : Owner) → AllowedFrom pool [] h → (from : IsPrefix (left h o) (pushed h o)) → queue h o ≡ from.0
unfolding queue
queue_rest pool h o so from =
    rw (sym from.1) (without_front (left h o) from.0 (subst Once (sym from.1) (pushed_once pool h o so)))

abbrev pub KeepsOrder : Mode → List Event → Owner → Type 0
KeepsOrder mode h o = keeps_order mode o ≡ true → IsPrefix (left h o) (pushed h o)

-- one more is pushed
prefix_push : (ls ps : List ℕ) (u : ℕ) → IsPrefix ls ps → IsPrefix ls (ps ++ u ∷ [])
prefix_push ls ps u p = (p.0 ++ u ∷ [], sym (append_assoc ls p.0 (u ∷ [])) ∙ ap (λ xs. xs ++ u ∷ []) p.1)

-- the first of the rest is taken
prefix_take : (ls ps : List ℕ) (t : ℕ) (p : IsPrefix ls ps) → slice_get p.0 0 ≡ Some t → IsPrefix (ls ++ t ∷ []) ps
prefix_take ls ps t p is =
    let rest = first_then t p.0 is in
    (rest.0, append_assoc ls (t ∷ []) rest.0 ∙ ap (λ xs. ls ++ xs) (sym rest.1) ∙ p.1)

order_taken : (pool : Pool) (h : List Event) (e : Event) (o : Owner) (t : ℕ) → AllowedFrom pool [] h → KeepsOrder pool.mode h o → Allowed pool h e
    → pushed_by o e ≡ None → taken_by e ≡ Some t → (b : Bool) → is_in t (pushed h o) ≡ b → keeps_order pool.mode o ≡ true → IsPrefix (left (h ++ e ∷ []) o) (pushed (h ++ e ∷ []) o)
order_taken pool h e o t so order may none is false there keeps =
    rw (left_take h e o t none is, pushed_more, none, append-nil, there, append-nil) (order keeps)
order_taken pool h e o t so order may none is true there keeps =
    let chosen = take_chosen pool h e t may is in
    let same : chosen.0 ≡ o = pushed_apart pool h so t chosen.0 o (queued_pushed h chosen.0 t (chosen_queued pool.mode h t chosen)) there in
    let here : slice_get (order keeps).0 0 ≡ Some t =
    ⊎_elim
    (λ first. ap first_of (sym (queue_rest pool h o so (order keeps)) ∙ ap (queue h) (sym same)) ∙ first)
    (λ any. absurd (true≢false (sym keeps ∙ ap (keeps_order pool.mode) (sym same) ∙ any.0)))
    chosen.1 in
    rw (left_take h e o t none is, pushed_more, none, append-nil, there) (prefix_take (left h o) (pushed h o) t (order keeps) here)

pushes_or_takes : (o : Owner) (e : Event) (u : ℕ) → pushed_by o e ≡ Some u → taken_by e ≡ None
pushes_or_takes o (Acc t p k) u is = refl
pushes_or_takes o _ u is = absurd cc

order_more : (pool : Pool) (h : List Event) (e : Event) (o : Owner) → AllowedFrom pool [] h → KeepsOrder pool.mode h o → Allowed pool h e
    → (pushes takes : Option ℕ) → pushed_by o e ≡ pushes → taken_by e ≡ takes → KeepsOrder pool.mode (h ++ e ∷ []) o
order_more pool h e o so order may None None none also keeps = rw (left_same h e o none also, pushed_more, none, append-nil) (order keeps)
order_more pool h e o so order may None (Some t) none is keeps = order_taken pool h e o t so order may none is (is_in t (pushed h o)) refl keeps
order_more pool h e o so order may (Some u) takes is also keeps =
    let fresh = go (is_in u (taken h)) refl in
    rw (left_push h e o u is (pushes_or_takes o e u is) fresh, pushed_more, is) (prefix_push (left h o) (pushed h o) u (order keeps))
  where
    go : (b : Bool) → is_in u (taken h) ≡ b → is_in u (taken h) ≡ false
    go true there = absurd (true≢false (sym (taken_known pool h so u there) ∙ is_new pool h e u so may (pushed_accepts o e u is)))
    go false there = there

order_none : (mode : Mode) (o : Owner) → KeepsOrder mode [] o
unfolding left pushed taken
order_none mode o keeps = ([], refl)

pub left_in_order : (pool : Pool) (h : List Event) → AllowedFrom pool [] h → LeftInOrder pool.mode h
left_in_order pool h so o =
    by_events pool (λ h. KeepsOrder pool.mode h o) (order_none pool.mode o) (λ h e so order may. order_more pool h e o so order may (pushed_by o e) (taken_by e) refl refl) h so
