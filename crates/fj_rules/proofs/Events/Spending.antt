-- The events that spend a completer: what they change, and what they leave.
use Rattle.std.proofs.Common.{ℕ, ◌≡◌, ◌≢◌, Bool, true, false, cond, not, ◌&&◌, ◌||◌, List, [], ◌∷◌, ◌++◌, Option, Some, None, refl, ap, sym, ◌∙◌, ⊎_elim}
use Rattle.std.specs.Prelude.{if◌then◌else◌}
use Rattle.std.specs.List.{filter, list_any}
use Rattle.std.proofs.lemmas.Bool.{eq-eqb, ne_eqb, or_right, cases_eq}
use Rattle.std.proofs.lemmas.List.Folds.{list_any-append}
use Rattle.fj_rules.specs.declared.event.Event.{Event}
use Rattle.fj_rules.specs.declared.event.Event.TheVariants.{Fire, Pass, Settle, Stop}
use Rattle.fj_rules.specs.declared.owner.Owner.{Owner}
use Rattle.fj_rules.specs.declared.place.Place.{Place}
use Rattle.fj_rules.specs.declared.place.Place.TheVariants.{Queued, Held, Open, Gone}
use Rattle.fj_rules.specs.Bounds.{Pool}
use Rattle.fj_rules.specs.Lists.{is_in, without}
use Rattle.fj_rules.specs.Tasks.{tasks, is_completer}
use Rattle.fj_rules.specs.Statuses.{status, status_by, is_undone}
use Rattle.fj_rules.specs.Completers.{is_spent, fires_or_passes}
use Rattle.fj_rules.specs.Places.{queued_in, held_by, opened, place, place_of, is_open, is_gone, open_tasks, gone}
use Rattle.fj_rules.specs.Allowed.{Allowed, AllowedFrom, is_stop}
use Rattle.fj_rules.proofs.Lists.Members.{filter_agree_in}
use Rattle.fj_rules.proofs.Events.Growth.{or_false}
use Rattle.fj_rules.proofs.Events.Statuses.{status_same}
use Rattle.fj_rules.proofs.Events.Ends.{status_settle}
use Rattle.fj_rules.proofs.Places.OnePlace.{opened_out}
use Rattle.fj_rules.proofs.Places.PlaceLaws.{moves, none_accepted, unmoved_opened, unmoved_place, gone_one}

-- the completer that this event fires or passes, or the task that it settles
abbrev pub spends : Event → Option ℕ
spends (Fire c how) = Some c
spends (Pass c) = Some c
spends (Settle c s) = Some c
spends _ = None

-- the task to which this event gives a status
abbrev pub settled_by : Event → Option ℕ
settled_by (Settle c s) = Some c
settled_by _ = None

-- an open task that is spent is gone
abbrev pub closed : Place → Place
closed Open = Gone
closed (Queued o) = Queued o
closed (Held w) = Held w
closed Gone = Gone

-- ---- statuses and what is spent

says_no_status : (e : Event) (t : ℕ) (b : Bool) → is_stop e ≡ false → (settled_by e ≡ Some t → ⊥) → status_by t b e ≡ None
says_no_status (Settle u s) t b unstopped other = rw (ne_eqb u t (λ same. other (ap Some same))) refl
says_no_status Stop t b unstopped other = absurd cc
says_no_status _ t b unstopped other = refl

-- the status stays, but at a stop and where this task is settled
pub status_kept : (h : List Event) (e : Event) (t : ℕ) → is_stop e ≡ false → (settled_by e ≡ Some t → ⊥) → status (h ++ e ∷ []) t ≡ status h t
status_kept h e t unstopped other = status_same h e t (λ b. says_no_status e t b unstopped other)

settled_spends : (e : Event) (t : ℕ) → settled_by e ≡ Some t → spends e ≡ Some t
settled_spends (Settle u s) t is = is
settled_spends _ t is = absurd cc

neither_fires : (e : Event) (t : ℕ) → (spends e ≡ Some t → ⊥) → fires_or_passes t e ≡ false
neither_fires (Fire c how) t other = ne_eqb c t (λ same. other (ap Some same))
neither_fires (Pass c) t other = ne_eqb c t (λ same. other (ap Some same))
neither_fires _ t other = refl

-- an event that doesn't spend the task leaves it spent or not
pub spent_kept : (h : List Event) (e : Event) (t : ℕ) → is_stop e ≡ false → (spends e ≡ Some t → ⊥) → is_spent (h ++ e ∷ []) t ≡ is_spent h t
unfolding is_spent
spent_kept h e t unstopped other =
    rw (list_any-append (fires_or_passes t) h (e ∷ []), neither_fires e t other, status_kept h e t unstopped (λ is. other (settled_spends e t is)))
    (ap (λ b. b || not (is_undone (status h t))) (or_false (list_any (fires_or_passes t) h)))

fires_now : (h : List Event) (e : Event) (c : ℕ) → fires_or_passes c e ≡ true → is_spent (h ++ e ∷ []) c ≡ true
unfolding is_spent
fires_now h e c is =
    let last : list_any (fires_or_passes c) (e ∷ []) ≡ true = rw is refl in
    rw (list_any-append (fires_or_passes c) h (e ∷ []), or_right (list_any (fires_or_passes c) h) (list_any (fires_or_passes c) (e ∷ [])) last) refl

-- a done task is spent
pub done_now : (h : List Event) (c : ℕ) → is_undone (status h c) ≡ false → is_spent h c ≡ true
unfolding is_spent
done_now h c done = or_right (list_any (fires_or_passes c) h) (not (is_undone (status h c))) (ap not done)

moves_on : (e : Event) → moves e ≡ true → is_stop e ≡ false
moves_on Stop moved = absurd cc
moves_on _ moved = refl

moves_settle : (e : Event) (t : ℕ) → moves e ≡ true → settled_by e ≡ Some t → ⊥
moves_settle (Settle c s) t moved is = absurd cc
moves_settle _ t moved is = absurd cc

moves_spend : (e : Event) (t : ℕ) → moves e ≡ true → spends e ≡ Some t → ⊥
moves_spend (Fire c how) t moved is = absurd cc
moves_spend (Pass c) t moved is = absurd cc
moves_spend (Settle c s) t moved is = absurd cc
moves_spend _ t moved is = absurd cc

-- an event that moves a task settles and spends none
pub moved_status : (h : List Event) (e : Event) (t : ℕ) → moves e ≡ true → status (h ++ e ∷ []) t ≡ status h t
moved_status h e t moved = status_kept h e t (moves_on e moved) (moves_settle e t moved)

pub moved_spent : (h : List Event) (e : Event) (t : ℕ) → moves e ≡ true → is_spent (h ++ e ∷ []) t ≡ is_spent h t
moved_spent h e t moved = spent_kept h e t (moves_on e moved) (moves_spend e t moved)

-- a task is spent after the event that spends it
pub spent_now : (pool : Pool) (h : List Event) (e : Event) (c : ℕ) → AllowedFrom pool [] h → Allowed pool h e → spends e ≡ Some c → is_spent (h ++ e ∷ []) c ≡ true
spent_now pool h (Fire d how) c so may is = fires_now h (Fire d how) c (eq-eqb d c cc)
spent_now pool h (Pass d) c so may is = fires_now h (Pass d) c (eq-eqb d c cc)
spent_now pool h (Settle d s) c so may is =
    let same : d ≡ c = cc in
    let done : is_undone (status (h ++ Settle d s ∷ []) d) ≡ false = rw (status_settle pool h d s so may.1) may.2 in
    done_now (h ++ Settle d s ∷ []) c (ap (λ u. is_undone (status (h ++ Settle d s ∷ []) u)) (sym same) ∙ done)
spent_now pool h _ c so may is = absurd cc

-- ---- what a spending event leaves

pub spends_unmoved : (e : Event) (c : ℕ) → spends e ≡ Some c → moves e ≡ false
spends_unmoved (Fire d how) c is = refl
spends_unmoved (Pass d) c is = refl
spends_unmoved (Settle d s) c is = refl
spends_unmoved _ c is = absurd cc

spends_unstopped : (e : Event) (c : ℕ) → spends e ≡ Some c → is_stop e ≡ false
spends_unstopped Stop c is = absurd cc
spends_unstopped _ c is = refl

other_spent : (e : Event) (c t : ℕ) → spends e ≡ Some c → t ≢ c → spends e ≡ Some t → ⊥
other_spent e c t is other also = let both : Some t ≡ Some c = sym also ∙ is in other (single both)
  where
    single : Some t ≡ Some c → t ≡ c
    single both = cc

pub spending_spent : (h : List Event) (e : Event) (c t : ℕ) → spends e ≡ Some c → t ≢ c → is_spent (h ++ e ∷ []) t ≡ is_spent h t
spending_spent h e c t is other = spent_kept h e t (spends_unstopped e c is) (other_spent e c t is other)

-- ---- places and lists

-- the others stay where they were
pub spending_place : (pool : Pool) (h : List Event) (e : Event) (c t : ℕ) → AllowedFrom pool [] h → Allowed pool h e → spends e ≡ Some c → t ≢ c → is_in t (tasks h) ≡ true
    → place (h ++ e ∷ []) t ≡ place h t
unfolding place
spending_place pool h e c t so may is other known = unmoved_place pool h e t so may (spends_unmoved e c is) known ∙ rw (spending_spent h e c t is other) refl

-- where a task stands that is open no more
pub closed_place : (q : Option Owner) (v : Option ℕ) (a b : Bool) → place_of q v (a && false) ≡ closed (place_of q v (a && b))
closed_place (Some o) v a b = refl
closed_place None (Some w) a b = refl
closed_place None None true true = refl
closed_place None None true false = refl
closed_place None None false b = refl

-- a task that is spent in a queue or on a stack stays there, and an open one is gone
pub spent_place : (pool : Pool) (h : List Event) (e : Event) (c : ℕ) → AllowedFrom pool [] h → Allowed pool h e → spends e ≡ Some c → is_in c (tasks h) ≡ true
    → place (h ++ e ∷ []) c ≡ closed (place h c)
unfolding place
spent_place pool h e c so may is known =
    unmoved_place pool h e c so may (spends_unmoved e c is) known
    ∙ rw (spent_now pool h e c so may is) (closed_place (queued_in h c) (held_by h c) (is_completer h c && is_in c (opened h)) (not (is_spent h c)))

pub closed_open : (p : Place) → is_open (closed p) ≡ false
closed_open (Queued o) = refl
closed_open (Held w) = refl
closed_open Open = refl
closed_open Gone = refl

filter_both : (p q : ℕ → Bool) (xs : List ℕ) → filter (λ t. p t && q t) xs ≡ filter q (filter p xs)
filter_both p q [] = refl
filter_both p q (x ∷ xs) = go (p x) (filter_both p q xs)
  where
    go : (b : Bool) → filter (λ t. p t && q t) xs ≡ filter q (filter p xs)
        → cond (b && q x) (x ∷ filter (λ t. p t && q t) xs) (filter (λ t. p t && q t) xs) ≡ filter q (cond b (x ∷ filter p xs) (filter p xs))
    go true rest = ap (λ ys. cond (q x) (x ∷ ys) ys) rest
    go false rest = rest

-- it leaves the open tasks
pub spending_open : (pool : Pool) (h : List Event) (e : Event) (c : ℕ) → AllowedFrom pool [] h → Allowed pool h e → spends e ≡ Some c
    → open_tasks (h ++ e ∷ []) ≡ without (open_tasks h) (c ∷ [])
unfolding open_tasks
spending_open pool h e c so may is =
    rw (unmoved_opened h e (spends_unmoved e c is))
    (filter_agree_in (λ t. is_open (place (h ++ e ∷ []) t)) (λ t. is_open (place h t) && not (is_in t (c ∷ []))) (opened h) agree
    ∙ filter_both (λ t. is_open (place h t)) (λ t. not (is_in t (c ∷ []))) (opened h))
  where
    never_both : (b : Bool) → (b && false) ≡ false
    never_both true = refl
    never_both false = refl

    always_both : (b : Bool) → (b && true) ≡ b
    always_both true = refl
    always_both false = refl

    agree : (t : ℕ) → is_in t (opened h) ≡ true → is_open (place (h ++ e ∷ []) t) ≡ (is_open (place h t) && not (is_in t (c ∷ [])))
    agree t there =
        let known = (opened_out pool h so t there).known in
        ⊎_elim
        (λ same. ap is_open (spent_place pool h e t so may (is ∙ ap Some (sym same)) known) ∙ closed_open (place h t) ∙ rw (eq-eqb c t (sym same)) (sym (never_both (is_open (place h t)))))
        (λ other. ap is_open (spending_place pool h e c t so may is other known) ∙ rw (ne_eqb c t (λ same. other (sym same))) (sym (always_both (is_open (place h t)))))
        (cases_eq t c)

-- and comes to the gone ones, if it was open
pub spending_gone : (pool : Pool) (h : List Event) (e : Event) (c : ℕ) → AllowedFrom pool [] h → Allowed pool h e → spends e ≡ Some c → is_in c (tasks h) ≡ true
    → gone (h ++ e ∷ []) ≡ gone h ++ (if is_open (place h c) then c ∷ [] else [])
spending_gone pool h e c so may is known =
    gone_one pool h e c so may (none_accepted e (spends_unmoved e c is)) known (λ t other there. spending_place pool h e c t so may is other there)
    ∙ rw (spent_place pool h e c so may is known) (go (place h c))
  where
    go : (p : Place) → gone h ++ (if is_gone (closed p) && not (is_gone p) then c ∷ [] else []) ≡ gone h ++ (if is_open p then c ∷ [] else [])
    go (Queued o) = refl
    go (Held w) = refl
    go Open = refl
    go Gone = refl
