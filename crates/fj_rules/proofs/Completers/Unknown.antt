-- What a history says of numbers that it has not accepted: nothing.
use Rattle.std.proofs.Common.{ℕ, ◌≡◌, Bool, true, false, ◌||◌, List, [], ◌∷◌, ◌++◌, Option, Some, None, refl, ap, sym, ◌∙◌, arith, ⊎_elim}
use Rattle.std.specs.Prelude.{nat_lt, if◌then◌else◌, is_some}
use Rattle.std.specs.List.{filter_map, list_any, cons_option}
use Rattle.std.proofs.lemmas.Bool.{or_cases, ne_eqb, or_parts, true≢false}
use Rattle.fj_rules.specs.declared.event.Event.{Event}
use Rattle.fj_rules.specs.declared.event.Event.TheVariants.{Acc, Make, Add, Dec}
use Rattle.fj_rules.specs.declared.status.Status.TheVariants.{Undone}
use Rattle.fj_rules.specs.Bounds.{Pool}
use Rattle.fj_rules.specs.Lists.{is_in, first_said}
use Rattle.fj_rules.specs.Tasks.{tasks, accepted_by, kind, kind_by, is_completer, count_in}
use Rattle.fj_rules.specs.Statuses.{or_undone, status, accepts}
use Rattle.fj_rules.specs.Completers.{pending, added_by, counted_by, is_spent, fires_or_passes}
use Rattle.fj_rules.specs.Places.{queued_in, held_by}
use Rattle.fj_rules.specs.Climbs.{Spent, Counted, Early, Fires, Arrival, arrival}
use Rattle.fj_rules.specs.Allowed.{Allowed, AllowedFrom}
use Rattle.fj_rules.proofs.Lists.Members.{is_in_append}
use Rattle.fj_rules.proofs.Events.Growth.{tasks_more, filter_map_more}
use Rattle.fj_rules.proofs.Events.Lawful.{by_events, front_here, front_rest}
use Rattle.fj_rules.proofs.Events.Statuses.{accepted_is, is_silent}
use Rattle.fj_rules.proofs.Places.OnePlace.{never}
use Rattle.fj_rules.proofs.Events.KindsKept.{kept_known, completer_known}

-- who is not accepted after one more event was not before it
pub unknown_before : (h : List Event) (e : Event) (t : ℕ) → is_in t (tasks (h ++ e ∷ [])) ≡ false → is_in t (tasks h) ≡ false
unknown_before h e t absent =
    (or_parts (is_in t (tasks h)) (is_in t (cons_option (accepted_by e) [])) (rw (tasks_more, is_in_append t (tasks h) (cons_option (accepted_by e) [])) at absent)).0

-- ---- kinds and statuses

says_no_kind : (t : ℕ) (e : Event) → accepts t e ≡ false → kind_by t e ≡ None
says_no_kind t (Acc u o k) other = rw other refl
says_no_kind t (Make u k) other = rw other refl
says_no_kind t _ other = refl

none_says_kind : (t : ℕ) (h : List Event) → list_any (accepts t) h ≡ false → first_said (kind_by t) h ≡ None
none_says_kind t [] none = refl
none_says_kind t (e ∷ h) none =
    let parts = or_parts (accepts t e) (list_any (accepts t) h) none in
    rw (says_no_kind t e parts.0, none_says_kind t h parts.1) refl

pub unknown_kind : (h : List Event) (t : ℕ) → is_in t (tasks h) ≡ false → kind h t ≡ None
unfolding kind
unknown_kind h t absent = none_says_kind t h (accepted_is t h ∙ absent)

pub unknown_undone : (pool : Pool) (h : List Event) (t : ℕ) → AllowedFrom pool [] h → is_in t (tasks h) ≡ false → status h t ≡ Undone
unfolding status
unknown_undone pool h t so absent = ap or_undone (is_silent pool h so t absent)

-- ---- counts

-- nothing is added to such a number, and no arrival is counted at it
abbrev IsUncounted : List Event → Type 0
IsUncounted h = (t : ℕ) → is_in t (tasks h) ≡ false → (filter_map (added_by t) h ≡ []) × (filter_map (counted_by t) h ≡ [])

-- an arrival is counted only where something is pending
pub counted_pending : (h : List Event) (c : ℕ) → arrival h c ≡ Counted → nat_lt 0 (pending h c) ≡ true
unfolding arrival
counted_pending h c is = go (is_spent h c) (nat_lt 0 (pending h c)) (is_some (queued_in h c) || is_some (held_by h c)) refl is
  where
    go : (s p q : Bool) → nat_lt 0 (pending h c) ≡ p → ◌≡◌ {A = Arrival} (if s then Spent else if p then Counted else if q then Early else Fires) Counted → p ≡ true
    go true p q at is = absurd cc
    go false true q at is = refl
    go false false true at is = absurd cc
    go false false false at is = absurd cc

pending_of : (h : List Event) (t : ℕ) → filter_map (added_by t) h ≡ [] → filter_map (counted_by t) h ≡ [] → pending h t ≡ count_in (kind h t)
unfolding pending
pending_of h t unadded uncounted = rw (unadded, uncounted) (omega arith)

adds_known : (pool : Pool) (h : List Event) (e : Event) (t : ℕ) → Allowed pool h e → is_in t (tasks h) ≡ false → added_by t e ≡ None
adds_known pool h (Add c n) t may absent =
    rw (ne_eqb c t (λ same. true≢false (sym (kept_known h c may.0) ∙ ap (λ u. is_in u (tasks h)) same ∙ absent))) refl
adds_known pool h _ t may absent = refl

counts_known : (pool : Pool) (h : List Event) (e : Event) (t : ℕ) → Allowed pool h e → is_in t (tasks h) ≡ false → pending h t ≡ 0 → counted_by t e ≡ None
counts_known pool h (Dec c) t may absent none =
    rw (ne_eqb c t (λ same. true≢false (sym (counted_pending h c may) ∙ ap (λ u. nat_lt 0 (pending h u)) same ∙ ap (nat_lt 0) none))) refl
counts_known pool h _ t may absent none = refl

uncounted_more : (pool : Pool) (h : List Event) (e : Event) → AllowedFrom pool [] h → IsUncounted h → Allowed pool h e → IsUncounted (h ++ e ∷ [])
uncounted_more pool h e so uncounted may t absent =
    let old = unknown_before h e t absent in
    let was = uncounted t old in
    let none : pending h t ≡ 0 = pending_of h t was.0 was.1 ∙ ap count_in (unknown_kind h t old) in (
      filter_map_more (added_by t) h e ∙ rw (was.0, adds_known pool h e t may old) refl,
      filter_map_more (counted_by t) h e ∙ rw (was.1, counts_known pool h e t may old none) refl,
    )

uncounted : (pool : Pool) (h : List Event) → AllowedFrom pool [] h → IsUncounted h
uncounted pool = by_events pool IsUncounted (λ t absent. (refl, refl)) (uncounted_more pool)

-- a task that is accepted now begins with the count in its kind
pub new_pending : (pool : Pool) (h : List Event) (e : Event) (t : ℕ) → AllowedFrom pool [] h → is_in t (tasks h) ≡ false → accepted_by e ≡ Some t
    → pending (h ++ e ∷ []) t ≡ count_in (kind (h ++ e ∷ []) t)
new_pending pool h e t so absent is =
    let at = uncounted pool h so t absent in
    pending_of (h ++ e ∷ []) t (filter_map_more (added_by t) h e ∙ rw (at.0, adds_none e is) refl) (filter_map_more (counted_by t) h e ∙ rw (at.1, counts_none e is) refl)
  where
    adds_none : (e : Event) → accepted_by e ≡ Some t → added_by t e ≡ None
    adds_none (Add c n) is = absurd cc
    adds_none _ is = refl

    counts_none : (e : Event) → accepted_by e ≡ Some t → counted_by t e ≡ None
    counts_none (Dec c) is = absurd cc
    counts_none _ is = refl

-- ---- what is spent

-- no such number was fired or passed. That an event is allowed doesn't say so: an arrival fires at a number that was not accepted
abbrev pub IsUnfired : List Event → Type 0
IsUnfired h = (t : ℕ) → is_in t (tasks h) ≡ false → list_any (fires_or_passes t) h ≡ false

-- it is so where each that was fired or passed is a completer, by a wider selection of the events
pub unfired_from : (says : Event → Option ℕ) → ((e : Event) (c : ℕ) → fires_or_passes c e ≡ true → says e ≡ Some c)
    → (h : List Event) → ((c : ℕ) → is_in c (filter_map says h) ≡ true → is_completer h c ≡ true) → IsUnfired h
unfired_from says wider h completers t absent = never (list_any (fires_or_passes t) h) (λ fired. true≢false (sym (completer_known h t (completers t (there h fired))) ∙ absent))
  where
    there : (h : List Event) → list_any (fires_or_passes t) h ≡ true → is_in t (filter_map says h) ≡ true
    there [] fired = absurd cc
    there (e ∷ h) fired =
        ⊎_elim (λ now. front_here t (says e) (filter_map says h) (wider e t now)) (λ later. front_rest t (says e) (filter_map says h) (there h later))
        (or_cases (fires_or_passes t e) (list_any (fires_or_passes t) h) fired)

pub unknown_unspent : (pool : Pool) (h : List Event) (t : ℕ) → AllowedFrom pool [] h → IsUnfired h → is_in t (tasks h) ≡ false → is_spent h t ≡ false
unfolding is_spent
unknown_unspent pool h t so unfired absent = rw (unfired t absent, unknown_undone pool h t so absent) refl
