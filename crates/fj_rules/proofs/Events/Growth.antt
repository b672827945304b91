-- What each word of a history says after one more event.
use Rattle.std.proofs.Common.{ℕ, ◌≡◌, ◌+◌, Bool, true, false, cond, ◌||◌, List, [], ◌∷◌, ◌++◌, length, Option, Some, None, refl, ap, sym, ◌∙◌, append_assoc, length-append}
use Rattle.std.specs.List.{filter_map, cons_option, list_any}
use Rattle.std.proofs.lemmas.List.{append-nil}
use Rattle.std.proofs.lemmas.List.Elements.{filter_map-append}
use Rattle.std.proofs.lemmas.List.Sums.{fold-append}
use Rattle.fj_rules.specs.declared.event.Event.{Event}
use Rattle.fj_rules.specs.declared.owner.Owner.{Owner}
use Rattle.fj_rules.specs.Lists.{is_in, without, or_else, first_said}
use Rattle.fj_rules.specs.Tasks.{tasks, accepted_by, accepted, released, released_by, kind, kind_by}
use Rattle.fj_rules.specs.Queues.{pushed, pushed_by, taken, taken_by}
use Rattle.fj_rules.specs.Stacks.{stack, out_by, ended, ended_by, unless_ended}
use Rattle.fj_rules.specs.Hooks.{hooks, hooks_after}
use Rattle.fj_rules.specs.Statuses.{status, status_from, status_by, or_undone, accepts}
use Rattle.fj_rules.proofs.Lists.Members.{is_in_append}
use Rattle.fj_rules.specs.Places.{gone, gone_from, newly_gone, opened, opened_by}

-- the list with what is said at its end
abbrev pub with : {A : Type 0} → List A → Option A → List A
with xs said = xs ++ cons_option said []

pub filter_map_more : {A B : Type 0} (f : A → Option B) (xs : List A) (x : A) → filter_map f (xs ++ x ∷ []) ≡ with (filter_map f xs) (f x)
filter_map_more f xs x = filter_map-append f xs (x ∷ [])

pub tasks_more : (h : List Event) (e : Event) → tasks (h ++ e ∷ []) ≡ with (tasks h) (accepted_by e)
unfolding tasks
tasks_more h e = filter_map_more accepted_by h e

pub released_more : (h : List Event) (e : Event) → released (h ++ e ∷ []) ≡ with (released h) (released_by e)
unfolding released
released_more h e = filter_map_more released_by h e

pub pushed_more : (h : List Event) (o : Owner) (e : Event) → pushed (h ++ e ∷ []) o ≡ with (pushed h o) (pushed_by o e)
unfolding pushed
pushed_more h o e = filter_map_more (pushed_by o) h e

pub taken_more : (h : List Event) (e : Event) → taken (h ++ e ∷ []) ≡ with (taken h) (taken_by e)
unfolding taken
taken_more h e = filter_map_more taken_by h e

pub ended_more : (h : List Event) (w : ℕ) (e : Event) → ended (h ++ e ∷ []) w ≡ with (ended h w) (ended_by w e)
unfolding ended
ended_more h w e = filter_map_more (ended_by w) h e

pub opened_more : (h : List Event) (e : Event) → opened (h ++ e ∷ []) ≡ with (opened h) (opened_by e)
unfolding opened
opened_more h e = filter_map_more opened_by h e

-- the first_said says what it says, and the one more only where nothing was said
or_else_assoc : {A : Type 0} (a b c : Option A) → or_else (or_else a b) c ≡ or_else a (or_else b c)
or_else_assoc (Some x) b c = refl
or_else_assoc None b c = refl

or_else_none : {A : Type 0} (a : Option A) → or_else a None ≡ a
or_else_none (Some x) = refl
or_else_none None = refl

pub first_more : {A : Type 0} (says : Event → Option A) (h : List Event) (e : Event) → first_said says (h ++ e ∷ []) ≡ or_else (first_said says h) (says e)
first_more says [] e = or_else_none (says e)
first_more says (f ∷ h) e = ap (or_else (says f)) (first_more says h e) ∙ sym (or_else_assoc (says f) (first_said says h) (says e))

pub kind_more : (h : List Event) (t : ℕ) (e : Event) → kind (h ++ e ∷ []) t ≡ or_else (kind h t) (kind_by t e)
unfolding kind
kind_more h t e = first_more (kind_by t) h e

pub hooks_more : (h : List Event) (e : Event) → hooks (h ++ e ∷ []) ≡ hooks_after (hooks h) e
unfolding hooks
hooks_more h e = fold-append hooks_after _ h (e ∷ [])

-- ---- stacks

-- a task that ends later is taken out
out_of : (said : Option ℕ) (ended more others : List ℕ) → unless_ended said (ended ++ more) (without others more) ≡ without (unless_ended said ended others) more
out_of None ended more others = refl
out_of (Some t) ended more others = rw is_in_append (by_tests (is_in t ended) (is_in t more) refl)
  where
    by_tests : (b c : Bool) → is_in t more ≡ c → cond (b || c) (without others more) (t ∷ without others more) ≡ without (cond b others (t ∷ others)) more
    by_tests true c is = refl
    by_tests false true is = rw is refl
    by_tests false false is = rw is refl

pub without_none : (ts : List ℕ) → without ts [] ≡ ts
without_none [] = refl
without_none (t ∷ ts) = ap (λ us. t ∷ us) (without_none ts)

unless_ended_push : (said : Option ℕ) (ended others more : List ℕ) → unless_ended said ended (others ++ more) ≡ unless_ended said ended others ++ more
unless_ended_push None ended others more = refl
unless_ended_push (Some t) ended others more = elim (is_in t ended) as (λ b. cond b (others ++ more) (t ∷ others ++ more) ≡ cond b others (t ∷ others) ++ more) [ true ↦ refl | false ↦ refl ]

pub stack_more : (h : List Event) (w : ℕ) (e : Event) → stack (h ++ e ∷ []) w ≡ with (without (stack h w) (cons_option (ended_by w e) [])) (out_by w e)
unfolding stack ended
stack_more [] w e = elim (out_by w e) as (λ s. unless_ended s [] [] ≡ with [] s) [ Some t ↦ refl | None ↦ refl ]
stack_more (f ∷ h) w e =
    ap (unless_ended (out_by w f) (ended (h ++ e ∷ []) w)) (stack_more h w e)
    ∙ unless_ended_push (out_by w f) (ended (h ++ e ∷ []) w) (without (stack h w) (cons_option (ended_by w e) [])) (cons_option (out_by w e) [])
    ∙ ap (λ us. with us (out_by w e))
    (ap (λ es. unless_ended (out_by w f) es (without (stack h w) (cons_option (ended_by w e) []))) (ended_more h w e)
    ∙ out_of (out_by w f) (ended h w) (cons_option (ended_by w e) []) (stack h w))

-- ---- statuses

or_assoc : (a b c : Bool) → ((a || b) || c) ≡ (a || (b || c))
or_assoc true b c = refl
or_assoc false b c = refl

pub or_false : (a : Bool) → (a || false) ≡ a
or_false true = refl
or_false false = refl

-- what one more event says, where nothing was said before
pub status_from_more : (t : ℕ) (before : Bool) (h : List Event) (e : Event) → status_from t before (h ++ e ∷ []) ≡ or_else (status_from t before h) (status_by t (before || list_any (accepts t) h) e)
unfolding status_from
status_from_more t before [] e = or_else_none (status_by t before e) ∙ ap (λ b. status_by t b e) (sym (or_false before))
status_from_more t before (f ∷ h) e =
    ap (or_else (status_by t before f)) (status_from_more t (before || accepts t f) h e)
    ∙ sym (or_else_assoc (status_by t before f) (status_from t (before || accepts t f) h) (status_by t ((before || accepts t f) || list_any (accepts t) h) e))
    ∙ ap (λ b. or_else (or_else (status_by t before f) (status_from t (before || accepts t f) h)) (status_by t b e)) (or_assoc before (accepts t f) (list_any (accepts t) h))

-- ---- gone

gone_from_more : (before : List Event) (found : List ℕ) (h : List Event) (e : Event)
    → gone_from before found (h ++ e ∷ []) ≡ gone_from before found h ++ newly_gone ((before ++ h) ++ e ∷ []) (gone_from before found h)
unfolding gone_from
gone_from_more before found [] e = rw append-nil refl
gone_from_more before found (f ∷ h) e =
    let rest = gone_from (before ++ f ∷ []) (found ++ newly_gone (before ++ f ∷ []) found) h in
    gone_from_more (before ++ f ∷ []) (found ++ newly_gone (before ++ f ∷ []) found) h e
    ∙ ap (λ (b : List Event). rest ++ newly_gone (b ++ e ∷ []) rest) (append_assoc before (f ∷ []) h)

pub gone_more : (h : List Event) (e : Event) → gone (h ++ e ∷ []) ≡ gone h ++ newly_gone (h ++ e ∷ []) (gone h)
unfolding gone
gone_more h e = gone_from_more [] [] h e

-- the first status stays; an undone task gets what the event says
pub status_more : (h : List Event) (t : ℕ) (e : Event)
    → status (h ++ e ∷ []) t ≡ or_undone (or_else (status_from t false h) (status_by t (list_any (accepts t) h) e))
unfolding status
status_more h t e = ap or_undone (status_from_more t false h e)

-- an event that neither hands out nor ends at the worker leaves its stack as it was
pub stack_same : (h : List Event) (w : ℕ) (e : Event) → ended_by w e ≡ None → out_by w e ≡ None → stack (h ++ e ∷ []) w ≡ stack h w
stack_same h w e none also = stack_more h w e ∙ rw (none, also) (append-nil (without (stack h w) []) ∙ without_none (stack h w))

pub accepted_more : (h : List Event) (e : Event) → accepted (h ++ e ∷ []) ≡ accepted h + length (cons_option (accepted_by e) [])
unfolding accepted
accepted_more h e = rw tasks_more (length-append (tasks h) (cons_option (accepted_by e) []))
