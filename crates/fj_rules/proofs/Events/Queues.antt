-- The queues after one more event.
use Rattle.std.proofs.Common.{ℕ, ◌≡◌, Bool, true, false, cond, not, ◌||◌, List, [], ◌∷◌, ◌++◌, Some, None, refl, ap, sym, ◌∙◌, ⊎_elim}
use Rattle.std.specs.Prelude.{◌==◌}
use Rattle.std.proofs.lemmas.List.{append-nil}
use Rattle.std.proofs.lemmas.List.Elements.{filter-append}
use Rattle.std.proofs.lemmas.Bool.{true≢false, eqb-true, or_cases}
use Rattle.fj_rules.specs.declared.event.Event.{Event}
use Rattle.fj_rules.specs.declared.owner.Owner.{Owner}
use Rattle.fj_rules.specs.Bounds.{Pool}
use Rattle.fj_rules.specs.Lists.{is_in, without}
use Rattle.fj_rules.specs.Queues.{pushed, pushed_by, taken, taken_by, left, queue}
use Rattle.fj_rules.specs.Allowed.{Allowed, AllowedFrom}
use Rattle.fj_rules.proofs.Lists.Members.{is_in_append, is_in_filter, filter_all}
use Rattle.fj_rules.proofs.Events.Growth.{without_none, pushed_more}
use Rattle.fj_rules.proofs.Events.Lawful.{taken_known, pushed_accepts, is_new, left_push, left_take, left_same, pushed_apart, among}

-- an event that neither puts a task there nor takes any leaves a queue as it was
pub queue_same : (h : List Event) (e : Event) (o : Owner) → pushed_by o e ≡ None → taken_by e ≡ None → queue (h ++ e ∷ []) o ≡ queue h o
unfolding queue
queue_same h e o none also = rw (left_same h e o none also, pushed_more, none, append-nil) refl

-- what was never taken has not left
pub left_of_taken : (h : List Event) (o : Owner) (u : ℕ) → is_in u (taken h) ≡ false → is_in u (left h o) ≡ false
unfolding left
left_of_taken h o u absent = is_in_filter (λ t. is_in t (pushed h o)) u (taken h) ∙ rw absent refl

-- a new task stands at the end
pub queue_push : (pool : Pool) (h : List Event) (e : Event) (o : Owner) (u : ℕ) → AllowedFrom pool [] h → Allowed pool h e
    → pushed_by o e ≡ Some u → taken_by e ≡ None → queue (h ++ e ∷ []) o ≡ queue h o ++ u ∷ []
unfolding queue
queue_push pool h e o u so may is none =
    let fresh = untaken (is_in u (taken h)) refl in
    rw (left_push h e o u is none fresh, pushed_more, is, filter-append)
    (ap (λ xs. without (pushed h o) (left h o) ++ xs) (alone (is_in u (left h o)) refl (fresh_left fresh)))
  where
    untaken : (b : Bool) → is_in u (taken h) ≡ b → is_in u (taken h) ≡ false
    untaken true there = absurd (true≢false (sym (taken_known pool h so u there) ∙ is_new pool h e u so may (pushed_accepts o e u is)))
    untaken false there = there

    fresh_left : is_in u (taken h) ≡ false → is_in u (left h o) ≡ false
    fresh_left fresh = left_of_taken h o u fresh

    alone : (b : Bool) → is_in u (left h o) ≡ b → is_in u (left h o) ≡ false → without (u ∷ []) (left h o) ≡ u ∷ []
    alone b is absent = rw absent refl

-- the other queues stay as they were
pub queue_other : (pool : Pool) (h : List Event) (e : Event) (o p : Owner) (t : ℕ) → AllowedFrom pool [] h
    → pushed_by o e ≡ None → taken_by e ≡ Some t → is_in t (pushed h p) ≡ true → (o ≡ p → ⊥) → queue (h ++ e ∷ []) o ≡ queue h o
unfolding queue
queue_other pool h e o p t so none is there apart =
    rw (left_take h e o t none is, pushed_more, none, append-nil, absent (is_in t (pushed h o)) refl, append-nil) refl
  where
    absent : (b : Bool) → is_in t (pushed h o) ≡ b → b ≡ false
    absent true here = absurd (apart (pushed_apart pool h so t o p here there))
    absent false here = refl

-- what is not in the list is not missed
pub without_absent : (ts : List ℕ) (t : ℕ) → is_in t ts ≡ false → without ts (t ∷ []) ≡ ts
without_absent ts t absent = filter_all (λ u. not (is_in u (t ∷ []))) ts (λ u there. go u (is_in u (t ∷ [])) refl there)
  where
    go : (u : ℕ) (b : Bool) → is_in u (t ∷ []) ≡ b → is_in u ts ≡ true → not b ≡ true
    go u true is there = absurd (true≢false (sym there ∙ ap (λ v. is_in v ts) (single u is) ∙ absent))
      where
        single : (u : ℕ) → is_in u (t ∷ []) ≡ true → u ≡ t
        single u is = ⊎_elim (λ same. sym (eqb-true t u same)) (λ none. absurd cc) (or_cases (t == u) false is)
    go u false is there = refl

without_twice : (ts us vs : List ℕ) → without ts (us ++ vs) ≡ without (without ts us) vs
without_twice [] us vs = refl
without_twice (t ∷ ts) us vs = rw is_in_append (go (is_in t us) (without_twice ts us vs))
  where
    go : (b : Bool) → without ts (us ++ vs) ≡ without (without ts us) vs
        → cond (not (b || is_in t vs)) (t ∷ without ts (us ++ vs)) (without ts (us ++ vs)) ≡ without (cond (not b) (t ∷ without ts us) (without ts us)) vs
    go true rest = rest
    go false rest = ap (λ xs. cond (not (is_in t vs)) (t ∷ xs) xs) rest

-- a task that is taken leaves the queue that it is in, and no other queue changes
pub queue_without : (h : List Event) (e : Event) (o : Owner) (t : ℕ) → pushed_by o e ≡ None → taken_by e ≡ Some t → queue (h ++ e ∷ []) o ≡ without (queue h o) (t ∷ [])
unfolding queue
queue_without h e o t none is =
    rw (left_take h e o t none is, pushed_more, none, append-nil, without_twice (pushed h o) (left h o) (among (pushed h o) (t ∷ []))) (go (is_in t (pushed h o)) refl)
  where
    go : (b : Bool) → is_in t (pushed h o) ≡ b → without (without (pushed h o) (left h o)) (cond b (t ∷ []) []) ≡ without (without (pushed h o) (left h o)) (t ∷ [])
    go true there = refl
    go false there =
        let absent : is_in t (without (pushed h o) (left h o)) ≡ false = is_in_filter (λ u. not (is_in u (left h o))) t (pushed h o) ∙ rw there refl in
        rw without_none (sym (without_absent (without (pushed h o) (left h o)) t absent))
