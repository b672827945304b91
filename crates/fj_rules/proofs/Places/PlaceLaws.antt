-- What one more event leaves of places, and of the lists of open and of gone tasks.
use Rattle.std.proofs.Common.{ℕ, ◌≡◌, ◌≢◌, Bool, true, false, not, ◌&&◌, List, [], ◌∷◌, ◌++◌, Option, Some, None, refl, ap, sym, ◌∙◌, ⊎_elim}
use Rattle.std.specs.Prelude.{if◌then◌else◌}
use Rattle.std.specs.List.{filter, cons_option}
use Rattle.std.proofs.lemmas.List.{append-nil}
use Rattle.std.proofs.lemmas.List.Elements.{filter-append}
use Rattle.std.proofs.lemmas.Bool.{eq-eqb, true≢false, cases_eq}
use Rattle.fj_rules.specs.declared.event.Event.{Event}
use Rattle.fj_rules.specs.declared.event.Event.TheVariants.{Acc, Make, Out, Skip, End}
use Rattle.fj_rules.specs.declared.owner.Owner.{Owner}
use Rattle.fj_rules.specs.declared.place.Place.TheVariants.{Open, Gone}
use Rattle.fj_rules.specs.Bounds.{Pool}
use Rattle.fj_rules.specs.Lists.{is_in}
use Rattle.fj_rules.specs.Tasks.{tasks, accepted, accepted_by, is_completer}
use Rattle.fj_rules.specs.Queues.{queue, taken_by, pushed_by}
use Rattle.fj_rules.specs.Stacks.{stack, ended_by, out_by}
use Rattle.fj_rules.specs.Completers.{is_spent}
use Rattle.fj_rules.specs.Places.{queued_in, held_by, opened, opened_by, place, place_of, is_open, is_gone, open_tasks, gone}
use Rattle.fj_rules.specs.Allowed.{Allowed, AllowedFrom}
use Rattle.fj_rules.proofs.Lists.Members.{is_in_append, filter_agree_in}
use Rattle.fj_rules.proofs.Events.Growth.{tasks_more, opened_more, or_false, stack_same}
use Rattle.fj_rules.proofs.Events.Lawful.{allowed_more, is_in_with, not_new}
use Rattle.fj_rules.proofs.Events.Queues.{queue_same}
use Rattle.fj_rules.proofs.Places.GoneTasks.{not_queued, not_held, no_owner, no_worker_has, queue_gains}
use Rattle.fj_rules.proofs.Places.GoneList.{queue_keeps, stack_keeps, gone_same, gone_gains, not_said}
use Rattle.fj_rules.proofs.Places.PlacesKept.{place_queued, place_held}
use Rattle.fj_rules.proofs.Places.OnePlace.{queued_there, held_there, stack_before, never}
use Rattle.fj_rules.proofs.Events.KindsKept.{tasks_same, accepted_same, completer_still}
use Rattle.fj_rules.proofs.Places.StacksTaken.{out_takes}

-- ---- events that move nothing

-- whether the event puts a task into a list, or takes it from one
abbrev pub moves : Event → Bool
moves (Acc t o k) = true
moves (Make t k) = true
moves (Out t w) = true
moves (Skip t w) = true
moves (End t w) = true
moves _ = false

pub none_accepted : (e : Event) → moves e ≡ false → accepted_by e ≡ None
none_accepted (Acc t o k) unmoved = absurd cc
none_accepted (Make t k) unmoved = absurd cc
none_accepted _ unmoved = refl

pub none_pushed : (o : Owner) (e : Event) → moves e ≡ false → pushed_by o e ≡ None
none_pushed o (Acc t p k) unmoved = absurd cc
none_pushed o _ unmoved = refl

pub none_taken : (e : Event) → moves e ≡ false → taken_by e ≡ None
none_taken (Out t w) unmoved = absurd cc
none_taken (Skip t w) unmoved = absurd cc
none_taken _ unmoved = refl

pub none_out : (w : ℕ) (e : Event) → moves e ≡ false → out_by w e ≡ None
none_out w (Out t v) unmoved = absurd cc
none_out w _ unmoved = refl

pub none_ended : (w : ℕ) (e : Event) → moves e ≡ false → ended_by w e ≡ None
none_ended w (End t v) unmoved = absurd cc
none_ended w _ unmoved = refl

pub none_opened : (e : Event) → moves e ≡ false → opened_by e ≡ None
none_opened (Make t k) unmoved = absurd cc
none_opened (End t w) unmoved = absurd cc
none_opened _ unmoved = refl

pub unmoved_tasks : (h : List Event) (e : Event) → moves e ≡ false → tasks (h ++ e ∷ []) ≡ tasks h
unmoved_tasks h e unmoved = tasks_same h e (none_accepted e unmoved)

pub unmoved_accepted : (h : List Event) (e : Event) → moves e ≡ false → accepted (h ++ e ∷ []) ≡ accepted h
unmoved_accepted h e unmoved = accepted_same h e (none_accepted e unmoved)

pub unmoved_queue : (h : List Event) (e : Event) (o : Owner) → moves e ≡ false → queue (h ++ e ∷ []) o ≡ queue h o
unmoved_queue h e o unmoved = queue_same h e o (none_pushed o e unmoved) (none_taken e unmoved)

pub unmoved_stack : (h : List Event) (e : Event) (w : ℕ) → moves e ≡ false → stack (h ++ e ∷ []) w ≡ stack h w
unmoved_stack h e w unmoved = stack_same h w e (none_ended w e unmoved) (none_out w e unmoved)

opened_same : (h : List Event) (e : Event) → opened_by e ≡ None → opened (h ++ e ∷ []) ≡ opened h
opened_same h e none = opened_more h e ∙ rw none (append-nil (opened h))

pub unmoved_opened : (h : List Event) (e : Event) → moves e ≡ false → opened (h ++ e ∷ []) ≡ opened h
unmoved_opened h e unmoved = opened_same h e (none_opened e unmoved)

-- ---- what was opened

pub opened_kept : (h : List Event) (e : Event) (t : ℕ) → (opened_by e ≡ Some t → ⊥) → is_in t (opened (h ++ e ∷ [])) ≡ is_in t (opened h)
opened_kept h e t other =
    rw (opened_more, is_in_append t (opened h) (cons_option (opened_by e) []), not_said t (opened_by e) other) (or_false (is_in t (opened h)))

-- what is opened is new, or its body ends
opens_no_other : (e : Event) (t : ℕ) → (accepted_by e ≡ Some t → ⊥) → ((w : ℕ) → ended_by w e ≡ Some t → ⊥) → opened_by e ≡ Some t → ⊥
opens_no_other (Make u k) t new unended is = new is
opens_no_other (End u w) t new unended is = unended w (rw (eq-eqb w w refl) is)
opens_no_other _ t new unended is = absurd cc

-- ---- places

-- the place of a task that is in no queue and on no stack
pub place_out : (h : List Event) (t : ℕ) → ((o : Owner) → is_in t (queue h o) ≡ false) → ((w : ℕ) → is_in t (stack h w) ≡ false)
    → place h t ≡ (if is_completer h t && is_in t (opened h) && not (is_spent h t) then Open else Gone)
unfolding place
place_out h t unqueued unheld = rw (no_owner h t unqueued, no_worker_has h t unheld) (go (is_completer h t && is_in t (opened h) && not (is_spent h t)))
  where
    go : (b : Bool) → place_of None None b ≡ (if b then Open else Gone)
    go true = refl
    go false = refl

-- a task that is neither taken nor ends its body stays where it was, unless it is spent now
pub place_more : (pool : Pool) (h : List Event) (e : Event) (t : ℕ) → AllowedFrom pool [] h → Allowed pool h e → is_in t (tasks h) ≡ true
    → (taken_by e ≡ Some t → ⊥) → ((w : ℕ) → ended_by w e ≡ Some t → ⊥)
    → place (h ++ e ∷ []) t ≡ place_of (queued_in h t) (held_by h t) (is_completer h t && is_in t (opened h) && not (is_spent (h ++ e ∷ []) t))
place_more pool h e t so may known untaken unended = go (queued_in h t) (held_by h t) refl refl
  where
    so' : AllowedFrom pool [] (h ++ e ∷ [])
    so' = allowed_more pool [] h e so may

    new : accepted_by e ≡ Some t → ⊥
    new = not_new pool h e t so may known

    shut : (b : Bool) → (if b then Open else Gone) ≡ place_of None None b
    shut true = refl
    shut false = refl

    go : (q : Option Owner) (v : Option ℕ) → queued_in h t ≡ q → held_by h t ≡ v
        → place (h ++ e ∷ []) t ≡ place_of q v (is_completer h t && is_in t (opened h) && not (is_spent (h ++ e ∷ []) t))
    go (Some o) v qs vs = place_queued pool (h ++ e ∷ []) o t so' (queue_keeps h e o t untaken (queued_there h t o qs))
    go None (Some w) qs vs = place_held pool (h ++ e ∷ []) w t so' (stack_keeps h e w t (unended w) (held_there h t w vs))
    go None None qs vs =
        place_out (h ++ e ∷ []) t
        (λ o. never (is_in t (queue (h ++ e ∷ []) o)) (λ there. true≢false (sym (queue_gains pool h e o t so may known there) ∙ not_queued h o t qs)))
        (λ w. never (is_in t (stack (h ++ e ∷ []) w)) (λ there.
        ⊎_elim (λ old. true≢false (sym old.0 ∙ not_held h w t vs)) (λ out. untaken (out_takes w e t out)) (stack_before h e w t there)))
        ∙ rw (completer_still h e t new, opened_kept h e t (opens_no_other e t new unended)) (shut (is_completer h t && is_in t (opened h) && not (is_spent (h ++ e ∷ []) t)))

-- a task that is neither taken, nor ends its body, nor is spent now stays where it was
pub place_kept : (pool : Pool) (h : List Event) (e : Event) (t : ℕ) → AllowedFrom pool [] h → Allowed pool h e → is_in t (tasks h) ≡ true
    → (taken_by e ≡ Some t → ⊥) → ((w : ℕ) → ended_by w e ≡ Some t → ⊥) → is_spent (h ++ e ∷ []) t ≡ is_spent h t
    → place (h ++ e ∷ []) t ≡ place h t
unfolding place
place_kept pool h e t so may known untaken unended spent = place_more pool h e t so may known untaken unended ∙ rw spent refl

-- an event that moves nothing
pub unmoved_place : (pool : Pool) (h : List Event) (e : Event) (t : ℕ) → AllowedFrom pool [] h → Allowed pool h e → moves e ≡ false → is_in t (tasks h) ≡ true
    → place (h ++ e ∷ []) t ≡ place_of (queued_in h t) (held_by h t) (is_completer h t && is_in t (opened h) && not (is_spent (h ++ e ∷ []) t))
unmoved_place pool h e t so may unmoved known =
    place_more pool h e t so may known (none_said (taken_by e) t (none_taken e unmoved)) (λ w. none_said (ended_by w e) t (none_ended w e unmoved))
  where
    none_said : (said : Option ℕ) (t : ℕ) → said ≡ None → said ≡ Some t → ⊥
    none_said said t none is = absurd cc

-- ---- the list of open tasks

-- only what is opened now comes to the open tasks, where the others stay open or shut
pub open_more : (h : List Event) (e : Event) → ((t : ℕ) → is_in t (opened h) ≡ true → is_open (place (h ++ e ∷ []) t) ≡ is_open (place h t))
    → open_tasks (h ++ e ∷ []) ≡ open_tasks h ++ filter (λ t. is_open (place (h ++ e ∷ []) t)) (cons_option (opened_by e) [])
unfolding open_tasks
open_more h e same =
    rw (opened_more, filter-append)
    (ap (λ ts. ts ++ filter (λ t. is_open (place (h ++ e ∷ []) t)) (cons_option (opened_by e) []))
    (filter_agree_in (λ t. is_open (place (h ++ e ∷ []) t)) (λ t. is_open (place h t)) (opened h) same))

-- an event that opens no task, and after which each is where it was
pub open_same : (h : List Event) (e : Event) → opened_by e ≡ None → ((t : ℕ) → is_in t (opened h) ≡ true → place (h ++ e ∷ []) t ≡ place h t)
    → open_tasks (h ++ e ∷ []) ≡ open_tasks h
open_same h e none same =
    open_more h e (λ t there. ap is_open (same t there)) ∙ rw none (append-nil (open_tasks h))

-- an event that opens a task, and after which each of the others opened before is where it was
pub open_gains : (h : List Event) (e : Event) (t : ℕ) → opened_by e ≡ Some t → ((u : ℕ) → is_in u (opened h) ≡ true → place (h ++ e ∷ []) u ≡ place h u)
    → open_tasks (h ++ e ∷ []) ≡ open_tasks h ++ (if is_open (place (h ++ e ∷ []) t) then t ∷ [] else [])
open_gains h e t is same = open_more h e (λ u there. ap is_open (same u there)) ∙ rw is refl

-- ---- the list of gone tasks

-- an event after which each is where it was, and a new one is not gone
pub gone_kept : (pool : Pool) (h : List Event) (e : Event) → AllowedFrom pool [] h
    → ((t : ℕ) → is_in t (tasks h) ≡ true → place (h ++ e ∷ []) t ≡ place h t) → ((t : ℕ) → accepted_by e ≡ Some t → is_gone (place (h ++ e ∷ []) t) ≡ false)
    → gone (h ++ e ∷ []) ≡ gone h
gone_kept pool h e so same new =
    gone_same pool h e so (λ t there after.
    ⊎_elim (λ old. (old, ap is_gone (sym (same t old)) ∙ after)) (λ said. absurd (true≢false (sym after ∙ new t said)))
    (is_in_with t (tasks h) (accepted_by e) (rw tasks_more at there)))

-- an event after which each but one task is where it was
pub gone_one : (pool : Pool) (h : List Event) (e : Event) (c : ℕ) → AllowedFrom pool [] h → Allowed pool h e → accepted_by e ≡ None → is_in c (tasks h) ≡ true
    → ((t : ℕ) → t ≢ c → is_in t (tasks h) ≡ true → place (h ++ e ∷ []) t ≡ place h t)
    → gone (h ++ e ∷ []) ≡ gone h ++ (if is_gone (place (h ++ e ∷ []) c) && not (is_gone (place h c)) then c ∷ [] else [])
gone_one pool h e c so may none known same = go (is_gone (place (h ++ e ∷ []) c)) (is_gone (place h c)) refl refl
  where
    old : (t : ℕ) → is_in t (tasks (h ++ e ∷ [])) ≡ true → is_in t (tasks h) ≡ true
    old t there = rw (tasks_same h e none) at there

    unless : (is_gone (place (h ++ e ∷ []) c) ≡ true → is_gone (place h c) ≡ true) → gone (h ++ e ∷ []) ≡ gone h
    unless before =
        gone_same pool h e so (λ t there after. (
          old t there,
          ⊎_elim
              (λ is. ap (λ u. is_gone (place h u)) is ∙ before (ap (λ u. is_gone (place (h ++ e ∷ []) u)) (sym is) ∙ after))
              (λ other. ap is_gone (sym (same t other (old t there))) ∙ after)
              (cases_eq t c),
        ))

    go : (a b : Bool) → is_gone (place (h ++ e ∷ []) c) ≡ a → is_gone (place h c) ≡ b → gone (h ++ e ∷ []) ≡ gone h ++ (if a && not b then c ∷ [] else [])
    go true false after before =
        gone_gains pool h e c so may known (rw (tasks_same h e none) known) before after
        (λ t other there now. (old t there, ap is_gone (sym (same t other (old t there))) ∙ now))
    go true true after before = unless (λ _. before) ∙ sym (append-nil (gone h))
    go false b after before = unless (λ now. absurd (true≢false (sym now ∙ after))) ∙ sym (append-nil (gone h))
