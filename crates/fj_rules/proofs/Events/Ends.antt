-- The stacks and the statuses after a body ended.
use Rattle.std.proofs.Common.{suc, ℕ, ◌≡◌, ◌≢◌, ◌+◌, ◌-◌, ◌≤◌, Bool, true, false, cond, not, ◌||◌, List, [], ◌∷◌, ◌++◌, length, take, Option, Some, None, refl, ap, sym, ◌∙◌, arith, subst, ⊎_elim, ◌⊎◌, inl, inr}
use Rattle.std.specs.Prelude.{◌==◌, slice_get, if◌then◌else◌}
use Rattle.std.specs.List.{filter_map, list_any}
use Rattle.std.proofs.lemmas.List.{append-nil}
use Rattle.std.proofs.lemmas.List.Elements.{filter-append}
use Rattle.std.proofs.lemmas.Bool.{eq-eqb, ne_eqb, true≢false}
use Rattle.fj_rules.specs.declared.event.Event.{Event}
use Rattle.fj_rules.specs.declared.event.Event.TheVariants as event
use Rattle.fj_rules.specs.declared.event.Event.TheVariants.{Acc, Make, Out, Skip, End, Add, Dec, Fire, Pass, Hooked, Settle, Close, Stop, Rel}
use Rattle.fj_rules.specs.declared.status.Status.{Status}
use Rattle.fj_rules.specs.declared.status.Status.TheVariants.{Undone, Normal, Exceptional, Cancelled}
use Rattle.fj_rules.specs.Bounds.{Pool}
use Rattle.fj_rules.specs.Lists.{is_in, without, or_else, last_of, times_in}
use Rattle.fj_rules.specs.Stacks.{stack, out_by, ended, unless_ended}
use Rattle.fj_rules.specs.Queues.{taken, taken_by}
use Rattle.fj_rules.specs.Statuses.{status, status_from, status_by, or_undone, is_undone, accepts}
use Rattle.fj_rules.specs.Allowed.{Allowed, AllowedFrom}
use Rattle.fj_rules.proofs.Lists.Members.{times_in_cons, times_in_append, times_in_some, Once, filter_all}
use Rattle.fj_rules.proofs.Events.Growth.{stack_more, stack_same, status_more, status_from_more}
use Rattle.fj_rules.proofs.Events.Lawful.{by_events, taken_once, front_times, said_times, said_fewer}
use Rattle.fj_rules.proofs.Places.StacksTaken.{out_takes}

-- ---- no task stands twice on a stack

unless_fewer : (t : ℕ) (said : Option ℕ) (ended others : List ℕ) → times_in t (unless_ended said ended others) ≤ said_times t said + times_in t others
unless_fewer t None ended others = omega arith
unless_fewer t (Some u) ended others = go (is_in u ended)
  where
    go : (b : Bool) → times_in t (cond b others (u ∷ others)) ≤ cond (u == t) 1 0 + times_in t others
    go true = omega arith
    go false = omega (arith, times_in_cons t u others)

stack_fewer : (t w : ℕ) (h : List Event) → times_in t (stack h w) ≤ times_in t (filter_map taken_by h)
unfolding stack
stack_fewer t w [] = omega arith
stack_fewer t w (e ∷ h) =
    omega (
      arith,
      unless_fewer t (out_by w e) (ended h w) (stack h w),
      front_times t (taken_by e) (filter_map taken_by h),
      said_fewer t (out_by w e) (taken_by e) (λ u is. out_takes w e u is),
      stack_fewer t w h,
    )

pub stack_once : (pool : Pool) (h : List Event) (w : ℕ) → AllowedFrom pool [] h → Once (stack h w)
unfolding taken
stack_once pool h w so t = omega (arith, stack_fewer t w h, taken_once pool h so t)

-- ---- the last of a stack leaves it

pub last_then : (t : ℕ) (xs : List ℕ) → slice_get xs (length xs - 1) ≡ Some t → xs ≡ take (length xs - 1) xs ++ t ∷ []
last_then t [] is = absurd cc
last_then t (x ∷ []) is = ap (λ y. y ∷ []) cc
last_then t (x ∷ y ∷ xs) is =
    let shorter : length (x ∷ y ∷ xs) - 1 ≡ suc (length (y ∷ xs) - 1) = omega arith in
    rw shorter (ap (λ ys. x ∷ ys) (last_then t (y ∷ xs) (rw shorter at is)))

pub without_last : (xs : List ℕ) (t : ℕ) → Once (xs ++ t ∷ []) → without (xs ++ t ∷ []) (t ∷ []) ≡ xs
without_last xs t once =
    filter-append (λ u. not (is_in u (t ∷ []))) xs (t ∷ [])
    ∙ rw (eq-eqb t t refl) (append-nil (without xs (t ∷ [])) ∙ filter_all (λ u. not (is_in u (t ∷ []))) xs (λ x there. other x there (t == x) refl))
  where
    other : (x : ℕ) → is_in x xs ≡ true → (b : Bool) → (t == x) ≡ b → not (b || false) ≡ true
    other x there false is = refl
    other x there true is =
        absurd (omega (arith, once x, times_in_append x xs (t ∷ []), times_in_some x xs there, times_in_cons x t [] ∙ ap (λ b. cond b 1 0 + 0) is))

pub stack_end : (pool : Pool) (h : List Event) (w t : ℕ) → AllowedFrom pool [] h → last_of (stack h w) ≡ Some t → stack (h ++ event.End t w ∷ []) w ≡ take (length (stack h w) - 1) (stack h w)
stack_end pool h w t so last =
    let xs = stack h w in
    let split = last_then t xs last in
    stack_more h w (event.End t w)
    ∙ rw (eq-eqb w w refl, append-nil) (ap (λ ys. without ys (t ∷ [])) split ∙ without_last (take (length xs - 1) xs) t (subst Once split (stack_once pool h w so)))

pub stack_end_other : (h : List Event) (v w t : ℕ) → v ≢ w → stack (h ++ event.End t w ∷ []) v ≡ stack h v
stack_end_other h v w t other = stack_same h v (event.End t w) (rw (ne_eqb v w other) refl) refl

-- ---- a status is given once

abbrev IsSettled : List Event → Type 0
IsSettled h = (t : ℕ) → status_from t false h ≡ Some Undone → ⊥

says_done : (pool : Pool) (h : List Event) (e : Event) (t : ℕ) (b : Bool) → Allowed pool h e → status_by t b e ≡ Some Undone → ⊥
says_done pool h (Settle u s) t b may is = go (u == t) is
  where
    go : (c : Bool) → (if c then Some s else None) ≡ Some Undone → ⊥
    go true is = let undone : s ≡ Undone = cc in absurd (true≢false (sym (ap is_undone undone) ∙ may.2))
    go false is = absurd cc
says_done pool h Stop t true may is = absurd cc
says_done pool h Stop t false may is = absurd cc
says_done pool h _ t b may is = absurd cc

or_else_some : (a b : Option Status) (s : Status) → or_else a b ≡ Some s → (a ≡ Some s) ⊎ (b ≡ Some s)
or_else_some (Some x) b s is = inl is
or_else_some None b s is = inr is

settled_more : (pool : Pool) (h : List Event) (e : Event) → AllowedFrom pool [] h → IsSettled h → Allowed pool h e → IsSettled (h ++ e ∷ [])
settled_more pool h e so settled may t is =
    ⊎_elim (settled t) (says_done pool h e t (list_any (accepts t) h) may)
    (or_else_some (status_from t false h) (status_by t (list_any (accepts t) h) e) Undone (sym (status_from_more t false h e) ∙ is))

settled_none : IsSettled []
unfolding status_from
settled_none t is = absurd cc

pub is_settled : (pool : Pool) (h : List Event) → AllowedFrom pool [] h → IsSettled h
is_settled pool = by_events pool IsSettled settled_none (settled_more pool)

pub status_settle : (pool : Pool) (h : List Event) (t : ℕ) (s : Status) → AllowedFrom pool [] h → is_undone (status h t) ≡ true → status (h ++ event.Settle t s ∷ []) t ≡ s
unfolding status
status_settle pool h t s so undone = status_more h t (event.Settle t s) ∙ go (status_from t false h) refl undone
  where
    go : (o : Option Status) → status_from t false h ≡ o → is_undone (or_undone o) ≡ true → or_undone (or_else o (if t == t then Some s else None)) ≡ s
    go None is undone = rw (eq-eqb t t refl) refl
    go (Some Undone) is undone = absurd (is_settled pool h so t is)
    go (Some Normal) is undone = absurd cc
    go (Some (Exceptional code)) is undone = absurd cc
    go (Some Cancelled) is undone = absurd cc
