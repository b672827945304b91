-- A task that is accepted now: into a queue, or open from the beginning.
use Rattle.std.proofs.Common.{ℕ, ◌≡◌, true, false, List, [], ◌∷◌, ◌++◌, Option, Some, None, refl, ap, sym, ◌∙◌}
use Rattle.std.proofs.lemmas.Bool.{eq-eqb, or_right}
use Rattle.fj_rules.specs.declared.event.Event.{Event}
use Rattle.fj_rules.specs.declared.event.Event.TheVariants.{Acc, Make}
use Rattle.fj_rules.specs.declared.kind.Kind.{Kind}
use Rattle.fj_rules.specs.declared.owner.Owner.{Owner}
use Rattle.fj_rules.specs.declared.owner.Owner.TheVariants.{Sub, Work}
use Rattle.fj_rules.specs.declared.place.Place.TheVariants.{Queued, Open}
use Rattle.fj_rules.specs.declared.status.Status.TheVariants.{Undone}
use Rattle.fj_rules.specs.Bounds.{Pool}
use Rattle.fj_rules.specs.Lists.{is_in}
use Rattle.fj_rules.specs.Tasks.{tasks, accepted_by, kind, kind_by, is_completer, is_completer_kind, count_in}
use Rattle.fj_rules.specs.Queues.{is_same, queue, taken_by}
use Rattle.fj_rules.specs.Stacks.{ended_by}
use Rattle.fj_rules.specs.Statuses.{status}
use Rattle.fj_rules.specs.Completers.{pending, is_spent}
use Rattle.fj_rules.specs.Places.{opened, place, is_gone, open_tasks, gone}
use Rattle.fj_rules.specs.Allowed.{Allowed, AllowedFrom}
use Rattle.fj_rules.proofs.Lists.Members.{is_in_append}
use Rattle.fj_rules.proofs.Events.Growth.{kind_more, opened_more}
use Rattle.fj_rules.proofs.Events.Lawful.{allowed_more, is_new}
use Rattle.fj_rules.proofs.Events.Queues.{queue_push}
use Rattle.fj_rules.proofs.Places.PlacesKept.{place_queued}
use Rattle.fj_rules.proofs.Places.OnePlace.{opened_out, out_new}
use Rattle.fj_rules.proofs.Places.PlaceLaws.{moves, place_out, place_kept, open_same, open_gains, gone_kept}
use Rattle.fj_rules.proofs.Events.Spending.{moved_spent, moved_status}
use Rattle.fj_rules.proofs.Completers.Unknown.{unknown_kind, unknown_undone, new_pending}

-- the kind that this event accepts a task with
abbrev pub kind_given : Event → Option Kind
kind_given (Acc t o k) = Some k
kind_given (Make t k) = Some k
kind_given _ = None

new_says_kind : (e : Event) (t : ℕ) (k : Kind) → accepted_by e ≡ Some t → kind_given e ≡ Some k → kind_by t e ≡ Some k
new_says_kind (Acc u o j) t k is given = rw (eq-eqb u t cc) given
new_says_kind (Make u j) t k is given = rw (eq-eqb u t cc) given
new_says_kind _ t k is given = absurd cc

-- its kind is the given one, and the count in it is pending
pub new_kind : (pool : Pool) (h : List Event) (e : Event) (t : ℕ) (k : Kind) → AllowedFrom pool [] h → Allowed pool h e → accepted_by e ≡ Some t → kind_given e ≡ Some k
    → kind (h ++ e ∷ []) t ≡ Some k
new_kind pool h e t k so may is given = kind_more h t e ∙ rw (unknown_kind h t (is_new pool h e t so may is)) (new_says_kind e t k is given)

pub new_count : (pool : Pool) (h : List Event) (e : Event) (t : ℕ) (k : Kind) → AllowedFrom pool [] h → Allowed pool h e → accepted_by e ≡ Some t → kind_given e ≡ Some k
    → pending (h ++ e ∷ []) t ≡ count_in (Some k)
new_count pool h e t k so may is given = new_pending pool h e t so (is_new pool h e t so may is) is ∙ ap count_in (new_kind pool h e t k so may is given)

new_moves : (e : Event) (t : ℕ) → accepted_by e ≡ Some t → moves e ≡ true
new_moves (Acc u o k) t is = refl
new_moves (Make u k) t is = refl
new_moves _ t is = absurd cc

-- it spends and settles nothing
pub accepting_spent : (h : List Event) (e : Event) (t u : ℕ) → accepted_by e ≡ Some t → is_spent (h ++ e ∷ []) u ≡ is_spent h u
accepting_spent h e t u is = moved_spent h e u (new_moves e t is)

pub accepting_status : (h : List Event) (e : Event) (t u : ℕ) → accepted_by e ≡ Some t → status (h ++ e ∷ []) u ≡ status h u
accepting_status h e t u is = moved_status h e u (new_moves e t is)

pub new_undone : (pool : Pool) (h : List Event) (e : Event) (t : ℕ) → AllowedFrom pool [] h → Allowed pool h e → accepted_by e ≡ Some t → status (h ++ e ∷ []) t ≡ Undone
new_undone pool h e t so may is = accepting_status h e t t is ∙ unknown_undone pool h t so (is_new pool h e t so may is)

new_takes : (e : Event) (t u : ℕ) → accepted_by e ≡ Some t → taken_by e ≡ Some u → ⊥
new_takes (Acc v o k) t u is also = absurd cc
new_takes (Make v k) t u is also = absurd cc
new_takes _ t u is also = absurd cc

new_ends : (e : Event) (t u w : ℕ) → accepted_by e ≡ Some t → ended_by w e ≡ Some u → ⊥
new_ends (Acc v o k) t u w is also = absurd cc
new_ends (Make v k) t u w is also = absurd cc
new_ends _ t u w is also = absurd cc

-- the others stay where they were
pub accepting_place : (pool : Pool) (h : List Event) (e : Event) (t u : ℕ) → AllowedFrom pool [] h → Allowed pool h e → accepted_by e ≡ Some t → is_in u (tasks h) ≡ true
    → place (h ++ e ∷ []) u ≡ place h u
accepting_place pool h e t u so may is known =
    place_kept pool h e u so may known (new_takes e t u is) (λ w. new_ends e t u w is) (accepting_spent h e t u is)

-- ---- into a queue

pub same_as_itself : (o : Owner) → is_same o o ≡ true
same_as_itself (Sub s) = eq-eqb s s refl
same_as_itself (Work w) = eq-eqb w w refl

pub submitted_place : (pool : Pool) (h : List Event) (t : ℕ) (o : Owner) (k : Kind) → AllowedFrom pool [] h → Allowed pool h (Acc t o k) → place (h ++ Acc t o k ∷ []) t ≡ Queued o
submitted_place pool h t o k so may =
    let e = Acc t o k in
    let there : queue (h ++ e ∷ []) o ≡ queue h o ++ t ∷ [] = queue_push pool h e o t so may (rw (same_as_itself o) refl) refl in
    place_queued pool (h ++ e ∷ []) o t (allowed_more pool [] h e so may)
    (rw (there, is_in_append t (queue h o) (t ∷ [])) (or_right (is_in t (queue h o)) (is_in t (t ∷ [])) (rw (eq-eqb t t refl) refl)))

pub submitted_open : (pool : Pool) (h : List Event) (t : ℕ) (o : Owner) (k : Kind) → AllowedFrom pool [] h → Allowed pool h (Acc t o k) → open_tasks (h ++ Acc t o k ∷ []) ≡ open_tasks h
submitted_open pool h t o k so may =
    open_same h (Acc t o k) refl (λ u there. accepting_place pool h (Acc t o k) t u so may refl (opened_out pool h so u there).known)

pub submitted_gone : (pool : Pool) (h : List Event) (t : ℕ) (o : Owner) (k : Kind) → AllowedFrom pool [] h → Allowed pool h (Acc t o k) → gone (h ++ Acc t o k ∷ []) ≡ gone h
submitted_gone pool h t o k so may =
    gone_kept pool h (Acc t o k) so (λ u known. accepting_place pool h (Acc t o k) t u so may refl known)
    (λ u new. let same : t ≡ u = cc in ap (λ v. is_gone (place (h ++ Acc t o k ∷ []) v)) (sym same) ∙ ap is_gone (submitted_place pool h t o k so may))

-- ---- open from the beginning

-- a trigger that was not spent before it was made is open
pub made_place : (pool : Pool) (h : List Event) (t : ℕ) (k : Kind) → AllowedFrom pool [] h → Allowed pool h (Make t k) → is_spent h t ≡ false → place (h ++ Make t k ∷ []) t ≡ Open
unfolding is_completer
made_place pool h t k so may unspent =
    let e = Make t k in
    let out = out_new pool h e t so may refl in
    let is : is_completer (h ++ e ∷ []) t ≡ true = ap is_completer_kind (new_kind pool h e t k so may refl refl) ∙ may.1 in
    let there : is_in t (opened (h ++ e ∷ [])) ≡ true =
    rw (opened_more, is_in_append t (opened h) (t ∷ [])) (or_right (is_in t (opened h)) (is_in t (t ∷ [])) (rw (eq-eqb t t refl) refl)) in
    place_out (h ++ e ∷ []) t out.queues out.stacks ∙ rw (is, there, accepting_spent h e t t refl, unspent) refl

pub made_open : (pool : Pool) (h : List Event) (t : ℕ) (k : Kind) → AllowedFrom pool [] h → Allowed pool h (Make t k) → is_spent h t ≡ false
    → open_tasks (h ++ Make t k ∷ []) ≡ open_tasks h ++ t ∷ []
made_open pool h t k so may unspent =
    open_gains h (Make t k) t refl (λ u there. accepting_place pool h (Make t k) t u so may refl (opened_out pool h so u there).known)
    ∙ rw (made_place pool h t k so may unspent) refl

pub made_gone : (pool : Pool) (h : List Event) (t : ℕ) (k : Kind) → AllowedFrom pool [] h → Allowed pool h (Make t k) → is_spent h t ≡ false → gone (h ++ Make t k ∷ []) ≡ gone h
made_gone pool h t k so may unspent =
    gone_kept pool h (Make t k) so (λ u known. accepting_place pool h (Make t k) t u so may refl known)
    (λ u new. let same : t ≡ u = cc in ap (λ v. is_gone (place (h ++ Make t k ∷ []) v)) (sym same) ∙ ap is_gone (made_place pool h t k so may unspent))
