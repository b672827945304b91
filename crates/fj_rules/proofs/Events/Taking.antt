-- A task that leaves its queue: handed to a worker, or skipped.
use Rattle.std.proofs.Common.{ℕ, ◌≡◌, ◌≢◌, Bool, true, false, not, ◌&&◌, List, [], ◌∷◌, ◌++◌, Option, Some, None, refl, ap, sym, ◌∙◌, ⊎_elim}
use Rattle.std.specs.Prelude.{if◌then◌else◌}
use Rattle.std.proofs.lemmas.List.{append-nil}
use Rattle.std.proofs.lemmas.Bool.{eq-eqb, or_right, true≢false}
use Rattle.fj_rules.specs.declared.event.Event.{Event}
use Rattle.fj_rules.specs.declared.event.Event.TheVariants.{Out, Skip}
use Rattle.fj_rules.specs.declared.owner.Owner.{Owner}
use Rattle.fj_rules.specs.declared.place.Place.TheVariants.{Queued, Held, Open, Gone}
use Rattle.fj_rules.specs.Bounds.{Pool}
use Rattle.fj_rules.specs.Lists.{is_in, without}
use Rattle.fj_rules.specs.Tasks.{tasks, accepted_by, is_completer}
use Rattle.fj_rules.specs.Queues.{queue, taken, taken_by}
use Rattle.fj_rules.specs.Stacks.{stack, ended_by}
use Rattle.fj_rules.specs.Completers.{is_spent}
use Rattle.fj_rules.specs.Places.{opened, opened_by, place, is_gone, open_tasks, gone}
use Rattle.fj_rules.specs.Allowed.{Allowed, AllowedFrom}
use Rattle.fj_rules.proofs.Lists.Members.{is_in_append}
use Rattle.fj_rules.proofs.Events.Growth.{taken_more, stack_more}
use Rattle.fj_rules.proofs.Events.Lawful.{allowed_more, pushed_known, queued_pushed, queued_fresh, take_chosen, chosen_queued}
use Rattle.fj_rules.proofs.Places.GoneList.{queued_here}
use Rattle.fj_rules.proofs.Places.PlacesKept.{place_queued, place_held}
use Rattle.fj_rules.proofs.Places.OnePlace.{stack_before, opened_out, never}
use Rattle.fj_rules.proofs.Places.PlaceLaws.{moves, place_out, place_kept, open_same, gone_one}
use Rattle.fj_rules.proofs.Events.Spending.{moved_spent, done_now}

takes_moves : (e : Event) (t : ℕ) → taken_by e ≡ Some t → moves e ≡ true
takes_moves (Out u w) t is = refl
takes_moves (Skip u w) t is = refl
takes_moves _ t is = absurd cc

takes_new : (e : Event) (t : ℕ) → taken_by e ≡ Some t → accepted_by e ≡ None
takes_new (Out u w) t is = refl
takes_new (Skip u w) t is = refl
takes_new _ t is = absurd cc

takes_opened : (e : Event) (t : ℕ) → taken_by e ≡ Some t → opened_by e ≡ None
takes_opened (Out u w) t is = refl
takes_opened (Skip u w) t is = refl
takes_opened _ t is = absurd cc

takes_ended : (e : Event) (t u w : ℕ) → taken_by e ≡ Some t → ended_by w e ≡ Some u → ⊥
takes_ended (Out v x) t u w is also = absurd cc
takes_ended (Skip v x) t u w is also = absurd cc
takes_ended _ t u w is also = absurd cc

-- the task was in a queue, and so it was accepted
pub taken_queued : (pool : Pool) (h : List Event) (e : Event) (t : ℕ) → Allowed pool h e → taken_by e ≡ Some t → (o : Owner) × (is_in t (queue h o) ≡ true)
taken_queued pool h e t may is = let c = take_chosen pool h e t may is in (c.0, chosen_queued pool.mode h t c)

pub taken_accepted : (pool : Pool) (h : List Event) (e : Event) (t : ℕ) → Allowed pool h e → taken_by e ≡ Some t → is_in t (tasks h) ≡ true
taken_accepted pool h e t may is = let at = taken_queued pool h e t may is in pushed_known h at.0 t (queued_pushed h at.0 t at.1)

taken_one : (said : Option ℕ) (t u : ℕ) → said ≡ Some t → u ≢ t → said ≡ Some u → ⊥
taken_one said t u is other also = other (single (sym also ∙ is))
  where
    single : Some u ≡ Some t → u ≡ t
    single both = cc

-- the others stay where they were
pub taking_place : (pool : Pool) (h : List Event) (e : Event) (t u : ℕ) → AllowedFrom pool [] h → Allowed pool h e → taken_by e ≡ Some t → u ≢ t → is_in u (tasks h) ≡ true
    → place (h ++ e ∷ []) u ≡ place h u
taking_place pool h e t u so may is other known =
    place_kept pool h e u so may known (taken_one (taken_by e) t u is other) (λ w. takes_ended e t u w is) (moved_spent h e u (takes_moves e t is))

-- a task in a queue was not opened, so the open ones stay
pub taking_open : (pool : Pool) (h : List Event) (e : Event) (t : ℕ) → AllowedFrom pool [] h → Allowed pool h e → taken_by e ≡ Some t → open_tasks (h ++ e ∷ []) ≡ open_tasks h
taking_open pool h e t so may is =
    let at = taken_queued pool h e t may is in
    open_same h e (takes_opened e t is) (λ u there.
    let out = opened_out pool h so u there in
    taking_place pool h e t u so may is (λ same. true≢false (sym at.1 ∙ ap (λ v. is_in v (queue h at.0)) (sym same) ∙ out.queues at.0)) out.known)

taking_gone : (pool : Pool) (h : List Event) (e : Event) (t : ℕ) → AllowedFrom pool [] h → Allowed pool h e → taken_by e ≡ Some t
    → gone (h ++ e ∷ []) ≡ gone h ++ (if is_gone (place (h ++ e ∷ []) t) && not (is_gone (place h t)) then t ∷ [] else [])
taking_gone pool h e t so may is =
    gone_one pool h e t so may (takes_new e t is) (taken_accepted pool h e t may is) (λ u other known. taking_place pool h e t u so may is other known)

-- ---- handed to a worker

pub handed_place : (pool : Pool) (h : List Event) (t w : ℕ) → AllowedFrom pool [] h → Allowed pool h (Out t w) → place (h ++ Out t w ∷ []) t ≡ Held w
handed_place pool h t w so may =
    let e = Out t w in
    place_held pool (h ++ e ∷ []) w t (allowed_more pool [] h e so may)
    (rw (stack_more, eq-eqb w w refl, is_in_append t (without (stack h w) []) (t ∷ [])) (or_right (is_in t (without (stack h w) [])) (is_in t (t ∷ [])) (rw (eq-eqb t t refl) refl)))

pub handed_gone : (pool : Pool) (h : List Event) (t w : ℕ) → AllowedFrom pool [] h → Allowed pool h (Out t w) → gone (h ++ Out t w ∷ []) ≡ gone h
handed_gone pool h t w so may = taking_gone pool h (Out t w) t so may refl ∙ rw (handed_place pool h t w so may) (append-nil (gone h))

-- ---- skipped

pub skipped_place : (pool : Pool) (h : List Event) (t w : ℕ) → AllowedFrom pool [] h → Allowed pool h (Skip t w) → place (h ++ Skip t w ∷ []) t ≡ Gone
skipped_place pool h t w so may =
    place_out (h ++ e ∷ []) t unqueued unheld ∙ rw spent (shut (is_completer (h ++ e ∷ []) t && is_in t (opened (h ++ e ∷ []))))
  where
    e : Event
    e = Skip t w

    spent : is_spent (h ++ e ∷ []) t ≡ true
    spent = moved_spent h e t refl ∙ done_now h t may.1

    now : is_in t (taken (h ++ e ∷ [])) ≡ true
    now = rw (taken_more, is_in_append t (taken h) (t ∷ [])) (or_right (is_in t (taken h)) (is_in t (t ∷ [])) (rw (eq-eqb t t refl) refl))

    unqueued : (o : Owner) → is_in t (queue (h ++ e ∷ []) o) ≡ false
    unqueued o = never (is_in t (queue (h ++ e ∷ []) o)) (λ there. true≢false (sym now ∙ queued_fresh (h ++ e ∷ []) o t there))

    unheld : (v : ℕ) → is_in t (stack (h ++ e ∷ []) v) ≡ false
    unheld v = never (is_in t (stack (h ++ e ∷ []) v)) (λ there.
        let at = taken_queued pool h e t may refl in
        ⊎_elim (λ old. apart at.0 (sym (place_queued pool h at.0 t so at.1) ∙ place_held pool h v t so old.0)) (λ out. absurd cc) (stack_before h e v t there))
      where
        apart : (o : Owner) → Queued o ≡ Held v → ⊥
        apart o both = absurd cc

    shut : (b : Bool) → (if b && false then Open else Gone) ≡ Gone
    shut true = refl
    shut false = refl

pub skipped_gone : (pool : Pool) (h : List Event) (t w : ℕ) → AllowedFrom pool [] h → Allowed pool h (Skip t w) → gone (h ++ Skip t w ∷ []) ≡ gone h ++ t ∷ []
skipped_gone pool h t w so may =
    let at = taken_queued pool h (Skip t w) t may refl in
    taking_gone pool h (Skip t w) t so may refl ∙ rw (skipped_place pool h t w so may, queued_here h at.0 t at.1) refl
