-- No more tasks are kept than the limit.
use Rattle.std.proofs.Common.{ℕ, ◌≡◌, ◌+◌, ◌≤◌, Bool, true, false, cond, not, List, [], ◌∷◌, ◌++◌, length, Option, Some, None, refl, ap, sym, ◌∙◌, arith, length-append}
use Rattle.std.specs.List.{filter, cons_option}
use Rattle.std.proofs.lemmas.List.Elements.{filter-append}
use Rattle.std.proofs.lemmas.Bool.{or_parts, not-true, true≢false}
use Rattle.fj_rules.specs.declared.event.Event.{Event}
use Rattle.fj_rules.specs.declared.event.Event.TheVariants as event
use Rattle.fj_rules.specs.Bounds.{Pool}
use Rattle.fj_rules.specs.Lists.{is_in}
use Rattle.fj_rules.specs.Tasks.{tasks, accepted_by, released, released_by, is_kept, live}
use Rattle.fj_rules.specs.Allowed.{Allowed, AllowedFrom}
use Rattle.fj_rules.proofs.Lists.Members.{is_in_append, filter_agree_in}
use Rattle.fj_rules.proofs.Events.Growth.{tasks_more, released_more}
use Rattle.fj_rules.proofs.Events.Lawful.{by_events}

fewer_pass : (p q : ℕ → Bool) → ((x : ℕ) → p x ≡ true → q x ≡ true) → (xs : List ℕ) → length (filter p xs) ≤ length (filter q xs)
fewer_pass p q more [] = omega arith
fewer_pass p q more (x ∷ xs) = go (fewer_pass p q more xs) (p x) (q x) refl refl
  where
    go : length (filter p xs) ≤ length (filter q xs) → (b c : Bool) → p x ≡ b → q x ≡ c → length (cond b (x ∷ filter p xs) (filter p xs)) ≤ length (cond c (x ∷ filter q xs) (filter q xs))
    go rest true true is also = omega arith
    go rest true false is also = absurd (true≢false (sym (more x is) ∙ also))
    go rest false true is also = omega arith
    go rest false false is also = rest

pub unreleased_before : (h : List Event) (e : Event) (t : ℕ) → is_in t (released (h ++ e ∷ [])) ≡ false → is_in t (released h) ≡ false
unreleased_before h e t none =
    (or_parts (is_in t (released h)) (is_in t (cons_option (released_by e) [])) (rw (released_more, is_in_append t (released h) (cons_option (released_by e) [])) at none)).0

live_is : (h : List Event) → live h ≡ length (filter (λ t. not (is_in t (released h))) (tasks h))
unfolding live is_kept
live_is h = ap length (filter_agree_in (is_kept h) (λ t. not (is_in t (released h))) (tasks h) (λ x there. rw there refl))

length_filter_some : (p : ℕ → Bool) (said : Option ℕ) → length (filter p (cons_option said [])) ≤ length (cons_option said [])
length_filter_some p None = omega arith
length_filter_some p (Some t) = elim (p t) as (λ b. length (cond b (t ∷ []) []) ≤ 1) [ true ↦ omega arith | false ↦ omega arith ]

live_more : (h : List Event) (e : Event) → live (h ++ e ∷ []) ≤ live h + length (cons_option (accepted_by e) [])
live_more h e =
    let p : ℕ → Bool = λ t. not (is_in t (released (h ++ e ∷ []))) in
    let q : ℕ → Bool = λ t. not (is_in t (released h)) in
    let fewer = fewer_pass p q (λ t more. ap not (unreleased_before h e t (not-true (is_in t (released (h ++ e ∷ []))) more))) (tasks h) in
    let both : length (filter p (tasks (h ++ e ∷ []))) ≡ length (filter p (tasks h)) + length (filter p (cons_option (accepted_by e) [])) =
    rw (tasks_more, filter-append) (length-append (filter p (tasks h)) (filter p (cons_option (accepted_by e) []))) in
    omega (arith, live_is h, live_is (h ++ e ∷ []), fewer, both, length_filter_some p (accepted_by e))

abbrev IsWithinLimit : Pool → List Event → Type 0
IsWithinLimit pool h = live h ≤ pool.limits.tasks

accept_room : (pool : Pool) (h : List Event) (e : Event) → Allowed pool h e → live h ≤ pool.limits.tasks → live h + length (cons_option (accepted_by e) []) ≤ pool.limits.tasks
accept_room pool h (event.Acc t o k) may few = omega (arith, may.0.room)
accept_room pool h (event.Make t k) may few = omega (arith, may.0.room)
accept_room pool h _ may few = omega arith

live_none : (pool : Pool) → live [] ≤ pool.limits.tasks
unfolding live tasks
live_none pool = omega arith

pub few_live : (pool : Pool) (h : List Event) → AllowedFrom pool [] h → live h ≤ pool.limits.tasks
few_live pool = by_events pool (IsWithinLimit pool) (live_none pool) (λ h e so few may. omega (arith, live_more h e, accept_room pool h e may few))
