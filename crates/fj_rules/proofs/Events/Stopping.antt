-- A stop: every accepted task that is undone becomes cancelled, the open ones are gone, and the others stay where they are.
use Rattle.std.proofs.Common.{ℕ, ◌≡◌, Bool, true, false, cond, not, ◌&&◌, List, [], ◌∷◌, ◌++◌, Option, Some, None, refl, ap, sym, ◌∙◌}
use Rattle.std.specs.Prelude.{if◌then◌else◌, IsPermutation}
use Rattle.std.specs.List.Sorted.{IsNonDecreasing}
use Rattle.std.specs.List.{filter}
use Rattle.fj_rules.specs.declared.event.Event.{Event}
use Rattle.fj_rules.specs.declared.event.Event.TheVariants.{Stop}
use Rattle.fj_rules.specs.declared.owner.Owner.{Owner}
use Rattle.fj_rules.specs.declared.place.Place.{Place}
use Rattle.fj_rules.specs.declared.place.Place.TheVariants.{Queued, Held, Open, Gone}
use Rattle.fj_rules.specs.declared.status.Status.{Status}
use Rattle.fj_rules.specs.declared.status.Status.TheVariants.{Undone, Normal, Exceptional, Cancelled}
use Rattle.fj_rules.specs.Bounds.{Pool}
use Rattle.fj_rules.specs.Lists.{is_in, or_else, times_in}
use Rattle.fj_rules.specs.Tasks.{tasks, accepted, is_kept, live, kind, is_completer, parent}
use Rattle.fj_rules.specs.Queues.{queue}
use Rattle.fj_rules.specs.Stacks.{stack}
use Rattle.fj_rules.specs.Statuses.{or_undone, status, status_from, is_undone}
use Rattle.fj_rules.specs.Completers.{pending, is_spent}
use Rattle.fj_rules.specs.Places.{queued_in, held_by, opened, place, is_open, is_gone, open_tasks, gone, newly_gone}
use Rattle.fj_rules.specs.Allowed.{Allowed, AllowedFrom}
use Rattle.fj_rules.proofs.Lists.Members.{filter_agree_in, filter_none, times_in_filter}
use Rattle.fj_rules.proofs.Events.Growth.{status_more, gone_more}
use Rattle.fj_rules.proofs.Events.Statuses.{accepted_is}
use Rattle.fj_rules.proofs.Events.Ends.{is_settled}
use Rattle.fj_rules.proofs.Events.Lawful.{tasks_once}
use Rattle.fj_rules.proofs.Places.GoneTasks.{once_times}
use Rattle.fj_rules.proofs.Places.OnePlace.{opened_out, opened_once}
use Rattle.fj_rules.proofs.Places.OpenList.{open_waits}
use Rattle.fj_rules.proofs.Lists.Rising.{rising_filter, sorted_is, tasks_rise}
use Rattle.fj_rules.proofs.Places.GoneList.{in_gone}
use Rattle.fj_rules.proofs.Places.PlaceLaws.{unmoved_tasks, unmoved_accepted, unmoved_queue, unmoved_stack, unmoved_opened, unmoved_place}
use Rattle.fj_rules.proofs.Events.KindsKept.{kind_same, parent_same}
use Rattle.fj_rules.proofs.Completers.Arrivals.{pending_same}
use Rattle.fj_rules.proofs.Events.Releasing.{kept_same, live_same}
use Rattle.fj_rules.proofs.Events.Spending.{closed, done_now, closed_open, closed_place}

-- ---- statuses

-- an accepted task that is undone becomes cancelled, and every other keeps its status
pub stop_status : (pool : Pool) (h : List Event) (t : ℕ) → AllowedFrom pool [] h
    → status (h ++ Stop ∷ []) t ≡ (if is_in t (tasks h) && is_undone (status h t) then Cancelled else status h t)
unfolding status
stop_status pool h t so = status_more h t Stop ∙ rw (accepted_is t h) (go (status_from t false h) (is_in t (tasks h)) refl)
  where
    go : (o : Option Status) (b : Bool) → status_from t false h ≡ o
        → or_undone (or_else o (if b then Some Cancelled else None)) ≡ (if b && is_undone (or_undone o) then Cancelled else or_undone o)
    go None true is = refl
    go None false is = refl
    go (Some Undone) b is = absurd (is_settled pool h so t is)
    go (Some Normal) true is = refl
    go (Some Normal) false is = refl
    go (Some (Exceptional code)) true is = refl
    go (Some (Exceptional code)) false is = refl
    go (Some Cancelled) true is = refl
    go (Some Cancelled) false is = refl

-- the same of an accepted task
pub stop_cancels : (pool : Pool) (h : List Event) (t : ℕ) → AllowedFrom pool [] h → is_in t (tasks h) ≡ true
    → status (h ++ Stop ∷ []) t ≡ (if is_undone (status h t) then Cancelled else status h t)
stop_cancels pool h t so known = stop_status pool h t so ∙ rw known refl

pub stop_done : (pool : Pool) (h : List Event) (t : ℕ) → AllowedFrom pool [] h → is_in t (tasks h) ≡ true → is_undone (status (h ++ Stop ∷ []) t) ≡ false
stop_done pool h t so known = ap is_undone (stop_cancels pool h t so known) ∙ go (is_undone (status h t)) refl
  where
    go : (b : Bool) → is_undone (status h t) ≡ b → is_undone (if b then Cancelled else status h t) ≡ false
    go true is = refl
    go false is = is

-- so each accepted task is spent
pub stop_spent : (pool : Pool) (h : List Event) (t : ℕ) → AllowedFrom pool [] h → is_in t (tasks h) ≡ true → is_spent (h ++ Stop ∷ []) t ≡ true
stop_spent pool h t so known = done_now (h ++ Stop ∷ []) t (stop_done pool h t so known)

-- ---- queues, stacks and hands

pub stop_tasks : (h : List Event) → tasks (h ++ Stop ∷ []) ≡ tasks h
stop_tasks h = unmoved_tasks h Stop refl

pub stop_queue : (h : List Event) (o : Owner) → queue (h ++ Stop ∷ []) o ≡ queue h o
stop_queue h o = unmoved_queue h Stop o refl

pub stop_stack : (h : List Event) (w : ℕ) → stack (h ++ Stop ∷ []) w ≡ stack h w
stop_stack h w = unmoved_stack h Stop w refl

-- ---- what stays

pub stop_accepted : (h : List Event) → accepted (h ++ Stop ∷ []) ≡ accepted h
stop_accepted h = unmoved_accepted h Stop refl

pub stop_kept : (h : List Event) (t : ℕ) → is_kept (h ++ Stop ∷ []) t ≡ is_kept h t
stop_kept h t = kept_same h Stop t refl refl

pub stop_live : (h : List Event) → live (h ++ Stop ∷ []) ≡ live h
stop_live h = live_same h Stop refl refl

pub stop_kind : (h : List Event) (t : ℕ) → kind (h ++ Stop ∷ []) t ≡ kind h t
stop_kind h t = kind_same h Stop t refl

pub stop_parent : (h : List Event) (t : ℕ) → parent (h ++ Stop ∷ []) t ≡ parent h t
stop_parent h t = parent_same h Stop t refl

pub stop_pending : (h : List Event) (t : ℕ) → pending (h ++ Stop ∷ []) t ≡ pending h t
stop_pending h t = pending_same h Stop t refl refl refl

-- ---- places

-- an open task is gone, and the others stay where they are
pub stop_place : (pool : Pool) (h : List Event) (t : ℕ) → AllowedFrom pool [] h → Allowed pool h Stop → is_in t (tasks h) ≡ true → place (h ++ Stop ∷ []) t ≡ closed (place h t)
unfolding place
stop_place pool h t so may known =
    unmoved_place pool h Stop t so may refl known
    ∙ rw (stop_spent pool h t so known) (closed_place (queued_in h t) (held_by h t) (is_completer h t && is_in t (opened h)) (not (is_spent h t)))

pub stop_open : (pool : Pool) (h : List Event) → AllowedFrom pool [] h → Allowed pool h Stop → open_tasks (h ++ Stop ∷ []) ≡ []
unfolding open_tasks
stop_open pool h so may =
    rw (unmoved_opened h Stop refl)
    (filter_none (λ t. is_open (place (h ++ Stop ∷ []) t)) (opened h)
    (λ t there. ap is_open (stop_place pool h t so may (opened_out pool h so t there).known) ∙ closed_open (place h t)))

newly : (p : Place) → (is_gone (closed p) && not (is_gone p)) ≡ is_open p
newly (Queued o) = refl
newly (Held w) = refl
newly Open = refl
newly Gone = refl

-- the open tasks come to the gone ones by rising number
pub stop_gone : (pool : Pool) (h : List Event) → AllowedFrom pool [] h → Allowed pool h Stop
    → gone (h ++ Stop ∷ []) ≡ gone h ++ filter (λ t. is_open (place h t)) (tasks h)
unfolding newly_gone
stop_gone pool h so may =
    gone_more h Stop
    ∙ rw (stop_tasks h)
    (ap (λ ts. gone h ++ ts)
    (filter_agree_in (λ t. is_gone (place (h ++ Stop ∷ []) t) && not (is_in t (gone h))) (λ t. is_open (place h t)) (tasks h)
    (λ t known. rw (stop_place pool h t so may known, in_gone pool h t so known) (newly (place h t)))))

-- ---- the open tasks in order

-- by rising number they are the same tasks, each as often
pub open_times : (pool : Pool) (h : List Event) (t : ℕ) → AllowedFrom pool [] h → times_in t (filter (λ u. is_open (place h u)) (tasks h)) ≡ times_in t (open_tasks h)
unfolding open_tasks
open_times pool h t so = times_in_filter (λ u. is_open (place h u)) t (tasks h) ∙ go (is_open (place h t)) refl ∙ sym (times_in_filter (λ u. is_open (place h u)) t (opened h))
  where
    go : (b : Bool) → is_open (place h t) ≡ b → cond b (times_in t (tasks h)) 0 ≡ cond b (times_in t (opened h)) 0
    go true is =
        let before = (open_waits h t is).opened_before in
        let known = (opened_out pool h so t before).known in
        once_times t (tasks h) (tasks_once pool h so) ∙ rw (known, before) refl ∙ sym (once_times t (opened h) (opened_once pool h so))
    go false is = refl

-- so sorting the list of the open tasks gives them
pub open_sorted : (pool : Pool) (h : List Event) (sorted : List ℕ) → AllowedFrom pool [] h → IsPermutation (open_tasks h) sorted → IsNonDecreasing sorted
    → sorted ≡ filter (λ t. is_open (place h t)) (tasks h)
open_sorted pool h sorted so moved up =
    sorted_is (open_tasks h) sorted (filter (λ t. is_open (place h t)) (tasks h)) moved up (rising_filter (λ t. is_open (place h t)) (tasks h) (tasks_rise pool h so)) (λ t. open_times pool h t so)

-- and the gone ones after a stop are those before it and the open ones sorted
pub stop_gone_sorted : (pool : Pool) (h : List Event) (sorted : List ℕ) → AllowedFrom pool [] h → Allowed pool h Stop → IsPermutation (open_tasks h) sorted → IsNonDecreasing sorted
    → gone (h ++ Stop ∷ []) ≡ gone h ++ sorted
stop_gone_sorted pool h sorted so may moved up = stop_gone pool h so may ∙ ap (λ ts. gone h ++ ts) (sym (open_sorted pool h sorted so moved up))
