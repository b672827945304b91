-- The status of tasks that were not accepted, and after one more event.
use Rattle.std.proofs.Common.{ℕ, ◌≡◌, Bool, true, false, ◌||◌, List, [], ◌∷◌, ◌++◌, Option, Some, None, refl, ap, sym, ◌∙◌}
use Rattle.std.specs.Prelude.{◌==◌, if◌then◌else◌}
use Rattle.std.specs.List.{list_any, filter_map, cons_option}
use Rattle.std.proofs.lemmas.Bool.{eqb-true, or_parts, true≢false}
use Rattle.fj_rules.specs.declared.event.Event.{Event}
use Rattle.fj_rules.specs.declared.event.Event.TheVariants.{Acc, Make, Settle}
use Rattle.fj_rules.specs.declared.status.Status.{Status}
use Rattle.fj_rules.specs.Bounds.{Pool}
use Rattle.fj_rules.specs.Lists.{is_in, or_else}
use Rattle.fj_rules.specs.Tasks.{tasks, accepted_by}
use Rattle.fj_rules.specs.Statuses.{or_undone, status, status_from, status_by, accepts}
use Rattle.fj_rules.specs.Allowed.{Allowed, AllowedFrom}
use Rattle.fj_rules.proofs.Lists.Members.{is_in_append}
use Rattle.fj_rules.proofs.Events.Growth.{tasks_more, status_from_more}
use Rattle.fj_rules.proofs.Events.Lawful.{by_events}

accepts_is : (t : ℕ) (e : Event) (ts : List ℕ) → (accepts t e || is_in t ts) ≡ is_in t (cons_option (accepted_by e) ts)
accepts_is t (Acc u o k) ts = refl
accepts_is t (Make u k) ts = refl
accepts_is t _ ts = refl

-- whether an event accepts the task is whether it is among those accepted
pub accepted_is : (t : ℕ) (h : List Event) → list_any (accepts t) h ≡ is_in t (tasks h)
unfolding tasks
accepted_is t [] = refl
accepted_is t (e ∷ h) = ap (λ b. accepts t e || b) (accepted_is t h) ∙ accepts_is t e (filter_map accepted_by h)

abbrev IsSilent : List Event → Type 0
IsSilent h = (t : ℕ) → is_in t (tasks h) ≡ false → status_from t false h ≡ None

says_nothing : (pool : Pool) (h : List Event) (e : Event) (t : ℕ) → Allowed pool h e → is_in t (tasks h) ≡ false → status_by t false e ≡ None
says_nothing pool h (Settle u s) t may absent = go (u == t) refl
  where
    go : (b : Bool) → (u == t) ≡ b → (if u == t then Some s else None) ≡ None
    go true is = absurd (true≢false (sym may.0 ∙ ap (λ x. is_in x (tasks h)) (eqb-true u t is) ∙ absent))
    go false is = rw is refl
says_nothing pool h _ t may absent = refl

silent_more : (pool : Pool) (h : List Event) (e : Event) → AllowedFrom pool [] h → IsSilent h → Allowed pool h e → IsSilent (h ++ e ∷ [])
silent_more pool h e so silent may t absent =
    let old = (or_parts (is_in t (tasks h)) (is_in t (cons_option (accepted_by e) [])) (rw (tasks_more, is_in_append t (tasks h) (cons_option (accepted_by e) [])) at absent)).0 in
    status_from_more t false h e ∙ rw (silent t old, accepted_is t h, old) (says_nothing pool h e t may old)

silent_none : IsSilent []
unfolding status_from
silent_none t absent = refl

pub is_silent : (pool : Pool) (h : List Event) → AllowedFrom pool [] h → IsSilent h
is_silent pool = by_events pool IsSilent silent_none (silent_more pool)

-- an event that says nothing of the task leaves its status
pub status_same : (h : List Event) (e : Event) (t : ℕ) → ((b : Bool) → status_by t b e ≡ None) → status (h ++ e ∷ []) t ≡ status h t
unfolding status
status_same h e t none = rw (status_from_more t false h e, none (list_any (accepts t) h)) (ap or_undone (last (status_from t false h)))
  where
    last : (s : Option Status) → or_else s None ≡ s
    last (Some x) = refl
    last None = refl
