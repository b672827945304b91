-- Which tasks one more event adds to the list of gone tasks.
use Rattle.std.proofs.Common.{ℕ, ◌≡◌, ◌≢◌, ◌+◌, Bool, true, false, cond, not, ◌&&◌, ◌||◌, List, [], ◌∷◌, ◌++◌, Option, Some, None, refl, ap, sym, ◌∙◌, arith, ⊎_elim}
use Rattle.std.specs.Prelude.{◌==◌}
use Rattle.std.specs.List.{filter, cons_option}
use Rattle.std.proofs.lemmas.List.{append-nil}
use Rattle.std.proofs.lemmas.Bool.{eq-eqb, ne_eqb, true≢false, cases_eq}
use Rattle.fj_rules.specs.declared.event.Event.{Event}
use Rattle.fj_rules.specs.declared.owner.Owner.{Owner}
use Rattle.fj_rules.specs.Bounds.{Pool}
use Rattle.fj_rules.specs.Lists.{is_in, without, times_in}
use Rattle.fj_rules.specs.Tasks.{tasks}
use Rattle.fj_rules.specs.Queues.{pushed, pushed_by, taken, taken_by, queue}
use Rattle.fj_rules.specs.Stacks.{stack, out_by, ended_by}
use Rattle.fj_rules.specs.Places.{place, is_gone, gone, newly_gone}
use Rattle.fj_rules.specs.Allowed.{Allowed, AllowedFrom}
use Rattle.fj_rules.proofs.Lists.Members.{is_in_append, is_in_filter, times_in_cons, times_in_none, times_in_some, filter_none, Once}
use Rattle.fj_rules.proofs.Events.Growth.{pushed_more, taken_more, stack_more, gone_more}
use Rattle.fj_rules.proofs.Events.Lawful.{allowed_more, tasks_once, queued_pushed, queued_fresh}
use Rattle.fj_rules.proofs.Places.GoneTasks.{in_queue, gone_nowhere, gone_once}
use Rattle.fj_rules.proofs.Places.OnePlace.{never}

-- an accepted task is in the list of gone tasks exactly if it is gone
pub in_gone : (pool : Pool) (h : List Event) (t : ℕ) → AllowedFrom pool [] h → is_in t (tasks h) ≡ true → is_in t (gone h) ≡ is_gone (place h t)
in_gone pool h t so known = go (is_in t (gone h)) (is_gone (place h t)) refl refl
  where
    times : (g : Bool) → is_gone (place h t) ≡ g → times_in t (gone h) ≡ cond g 1 0
    times g is = gone_once pool h so t ∙ rw (known, is) refl

    go : (b g : Bool) → is_in t (gone h) ≡ b → is_gone (place h t) ≡ g → b ≡ g
    go true true is also = refl
    go false false is also = refl
    go true false is also = absurd (omega (arith, times_in_some t (gone h) is, times false also))
    go false true is also = absurd (omega (arith, times_in_none t (gone h) is, times true also))

is_in_left : (t : ℕ) (xs ys : List ℕ) → is_in t xs ≡ true → is_in t (xs ++ ys) ≡ true
is_in_left t xs ys there = is_in_append t xs ys ∙ rw there refl

pub not_said : (t : ℕ) (said : Option ℕ) → (said ≡ Some t → ⊥) → is_in t (cons_option said []) ≡ false
not_said t None other = refl
not_said t (Some u) other = rw (ne_eqb u t (λ same. other (ap Some same))) refl

-- a queue loses no task but the one that is taken
pub queue_keeps : (h : List Event) (e : Event) (o : Owner) (t : ℕ) → (taken_by e ≡ Some t → ⊥) → is_in t (queue h o) ≡ true → is_in t (queue (h ++ e ∷ []) o) ≡ true
queue_keeps h e o t untaken there =
    in_queue (h ++ e ∷ []) o t
    (rw pushed_more (is_in_left t (pushed h o) (cons_option (pushed_by o e) []) (queued_pushed h o t there)))
    (rw taken_more (is_in_append t (taken h) (cons_option (taken_by e) []) ∙ rw (queued_fresh h o t there, not_said t (taken_by e) untaken) refl))

-- a stack loses no task but the one whose body ends
pub stack_keeps : (h : List Event) (e : Event) (w t : ℕ) → (ended_by w e ≡ Some t → ⊥) → is_in t (stack h w) ≡ true → is_in t (stack (h ++ e ∷ []) w) ≡ true
stack_keeps h e w t unended there =
    let stays : is_in t (without (stack h w) (cons_option (ended_by w e) [])) ≡ true =
    is_in_filter (λ u. not (is_in u (cons_option (ended_by w e) []))) t (stack h w) ∙ rw (there, not_said t (ended_by w e) unended) refl in
    rw stack_more (is_in_left t (without (stack h w) (cons_option (ended_by w e) [])) (cons_option (out_by w e) []) stays)

-- a task in a queue, or on a stack, is not gone
pub queued_here : (h : List Event) (o : Owner) (t : ℕ) → is_in t (queue h o) ≡ true → is_gone (place h t) ≡ false
queued_here h o t there = never (is_gone (place h t)) (λ gone. true≢false (sym there ∙ (gone_nowhere h t gone).queues o))

pub held_here : (h : List Event) (w t : ℕ) → is_in t (stack h w) ≡ true → is_gone (place h t) ≡ false
held_here h w t there = never (is_gone (place h t)) (λ gone. true≢false (sym there ∙ (gone_nowhere h t gone).stacks w))

-- the task was accepted and gone before the event, if it is gone after it
abbrev pub WasGone : List Event → Event → ℕ → Type 0
WasGone h e t = is_gone (place (h ++ e ∷ []) t) ≡ true → (is_in t (tasks h) ≡ true) × (is_gone (place h t) ≡ true)

not_newly : (pool : Pool) (h : List Event) (e : Event) (t : ℕ) → AllowedFrom pool [] h → WasGone h e t → (is_gone (place (h ++ e ∷ []) t) && not (is_in t (gone h))) ≡ false
not_newly pool h e t so was = go (is_gone (place (h ++ e ∷ []) t)) refl
  where
    go : (b : Bool) → is_gone (place (h ++ e ∷ []) t) ≡ b → (b && not (is_in t (gone h))) ≡ false
    go false is = refl
    go true is = let before = was is in rw (in_gone pool h t so before.0, before.1) refl

-- an event after which nothing is gone that was not gone before
pub gone_same : (pool : Pool) (h : List Event) (e : Event) → AllowedFrom pool [] h → ((t : ℕ) → is_in t (tasks (h ++ e ∷ [])) ≡ true → WasGone h e t) → gone (h ++ e ∷ []) ≡ gone h
unfolding newly_gone
gone_same pool h e so was =
    gone_more h e
    ∙ ap (λ ts. gone h ++ ts) (filter_none (λ u. is_gone (place (h ++ e ∷ []) u) && not (is_in u (gone h))) (tasks (h ++ e ∷ [])) (λ u known. not_newly pool h e u so (was u known)))
    ∙ append-nil (gone h)

filter_rest : (p : ℕ → Bool) (t : ℕ) (xs : List ℕ) → is_in t xs ≡ false → ((u : ℕ) → u ≢ t → is_in u xs ≡ true → p u ≡ false) → filter p xs ≡ []
filter_rest p t xs absent others = filter_none p xs (λ u there. others u (λ same. true≢false (sym there ∙ ap (λ v. is_in v xs) same ∙ absent)) there)

tail_once : (x : ℕ) (xs : List ℕ) → Once (x ∷ xs) → Once xs
tail_once x xs once u = omega (arith, times_in_cons u x xs, once u)

-- the one member of a list that passes
filter_one : (p : ℕ → Bool) (t : ℕ) (xs : List ℕ) → Once xs → is_in t xs ≡ true → p t ≡ true → ((u : ℕ) → u ≢ t → is_in u xs ≡ true → p u ≡ false) → filter p xs ≡ t ∷ []
filter_one p t [] once there passes others = absurd cc
filter_one p t (x ∷ xs) once there passes others =
    ⊎_elim here
    (λ other. let at : (x == t) ≡ false = ne_eqb x t other in rest other (filter_one p t xs (tail_once x xs once) (rw at at there) passes later))
    (cases_eq x t)
  where
    later : (u : ℕ) → u ≢ t → is_in u xs ≡ true → p u ≡ false
    later u other in_rest = others u other (go (x == u))
      where
        go : (b : Bool) → (b || is_in u xs) ≡ true
        go true = refl
        go false = in_rest

    here : x ≡ t → filter p (x ∷ xs) ≡ t ∷ []
    here same =
        let at : (x == t) ≡ true = eq-eqb x t same in
        let absent : is_in t xs ≡ false = never (is_in t xs) (λ there. let both : times_in t (x ∷ xs) ≡ 1 + times_in t xs = times_in_cons t x xs ∙ rw at refl in omega (arith, both, once t, times_in_some t xs there)) in
        rw (ap p same ∙ passes, filter_rest p t xs absent later) (ap (λ u. u ∷ []) same)

    rest : x ≢ t → filter p xs ≡ t ∷ [] → filter p (x ∷ xs) ≡ t ∷ []
    rest other is =
        let first : is_in x (x ∷ xs) ≡ true = rw (eq-eqb x x refl) refl in
        rw (others x other first) is

-- an event after which one task more is gone
pub gone_gains : (pool : Pool) (h : List Event) (e : Event) (t : ℕ) → AllowedFrom pool [] h → Allowed pool h e
    → is_in t (tasks h) ≡ true → is_in t (tasks (h ++ e ∷ [])) ≡ true → is_gone (place h t) ≡ false → is_gone (place (h ++ e ∷ []) t) ≡ true
    → ((u : ℕ) → u ≢ t → is_in u (tasks (h ++ e ∷ [])) ≡ true → WasGone h e u)
    → gone (h ++ e ∷ []) ≡ gone h ++ t ∷ []
unfolding newly_gone
gone_gains pool h e t so may known still before after was =
    gone_more h e
    ∙ ap (λ ts. gone h ++ ts) (filter_one (λ u. is_gone (place (h ++ e ∷ []) u) && not (is_in u (gone h))) t (tasks (h ++ e ∷ []))
    (tasks_once pool (h ++ e ∷ []) (allowed_more pool [] h e so may)) still (rw (after, in_gone pool h t so known, before) refl)
    (λ u other there. not_newly pool h e u so (was u other there)))
