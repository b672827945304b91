-- Where a body goes when its task ends, is settled, fires or is passed.
use Rattle.std.proofs.Common.{ℕ, ◌≡◌, ◌≢◌, ◌⊎◌, inl, inr, ◌&&◌, not, Bool, true, false, List, [], ◌∷◌, ◌++◌, Option, Some, None, refl, ap, sym, ◌∙◌, append_assoc, ⊎_elim}
use Rattle.std.specs.Prelude.{if◌then◌else◌}
use Rattle.std.specs.List.{list_all}
use Rattle.std.proofs.lemmas.Bool.{and_parts, cases_eq}
use Rattle.std.proofs.lemmas.List.{append-nil}
use Rattle.fj_rules.specs.declared.event.Event.{Event}
use Rattle.fj_rules.specs.declared.event.Event.TheVariants.{End, Settle}
use Rattle.fj_rules.specs.declared.owner.Owner.{Owner}
use Rattle.fj_rules.specs.declared.place.Place.{Place}
use Rattle.fj_rules.specs.declared.place.Place.TheVariants.{Queued, Held, Open, Gone}
use Rattle.fj_rules.specs.declared.status.Status.{Status}
use Rattle.fj_rules.specs.declared.status.Status.TheVariants.{Normal}
use Rattle.fj_rules.specs.Bounds.{Pool}
use Rattle.fj_rules.specs.Lists.{is_in}
use Rattle.fj_rules.specs.Tasks.{tasks, is_completer}
use Rattle.fj_rules.specs.Statuses.{status, is_undone}
use Rattle.fj_rules.specs.Completers.{is_spent}
use Rattle.fj_rules.specs.Places.{place, place_of, is_gone, queued_in, held_by, opened}
use Rattle.fj_rules.specs.Allowed.{Allowed, AllowedFrom}
use Rattle.fj_rules.specs.Answers.{settling}
use Rattle.fj_rules.proofs.Events.Lawful.{allowed_more}
use Rattle.fj_rules.proofs.Places.PlaceLaws.{moves, unmoved_place, unmoved_tasks}
use Rattle.fj_rules.proofs.Places.GoneTasks.{spent_stays}
use Rattle.fj_rules.proofs.Events.Spending.{spending_place}
use Rattle.fj_rules.proofs.Events.Opening.{ended_held, ended_place, ending_place}
use Rattle.fj_rules.proofs.Places.PlacesKept.{place_held}
use Rattle.fj_rules.proofs.Events.KindsKept.{tasks_same}
use Rattle.fj_slots.specs.Shelves.{Entries, is_there}
use Rattle.fj_body.specs.Stores.{is_waiting, has_body, HoldsBodies}
use Rattle.fj_body.proofs.Bodies.{same_body}

-- an event that moves nothing leaves a task where it was; or it was open, and goes
pub unmoved_closes : (pool : Pool) (h : List Event) (e : Event) (t : ℕ) → AllowedFrom pool [] h → Allowed pool h e → moves e ≡ false → is_in t (tasks h) ≡ true
    → (place (h ++ e ∷ []) t ≡ place h t) ⊎ ((place h t ≡ Open) × (place (h ++ e ∷ []) t ≡ Gone))
unfolding place
unmoved_closes pool h e t so may unmoved known =
    rw (unmoved_place pool h e t so may unmoved known) (go (queued_in h t) (held_by h t) (is_completer h t) (is_in t (opened h)) (is_spent h t) (is_spent (h ++ e ∷ []) t) (spent_stays h e t))
  where
    go : (q : Option Owner) (v : Option ℕ) (k o s s' : Bool) → (s ≡ true → s' ≡ true)
        → (place_of q v (k && o && not s') ≡ place_of q v (k && o && not s)) ⊎ ((place_of q v (k && o && not s) ≡ Open) × (place_of q v (k && o && not s') ≡ Gone))
    go (Some x) v k o s s' grows = inl refl
    go None (Some w) k o s s' grows = inl refl
    go None None false o s s' grows = inl refl
    go None None true false s s' grows = inl refl
    go None None true true true s' grows = inl (rw (grows refl) refl)
    go None None true true false true grows = inr (refl, refl)
    go None None true true false false grows = inl refl

-- so do several
pub closes_all : (pool : Pool) (h es : List Event) (t : ℕ) → AllowedFrom pool [] h → AllowedFrom pool h es → list_all (λ e. not (moves e)) es ≡ true → is_in t (tasks h) ≡ true
    → (place (h ++ es) t ≡ place h t) ⊎ ((place h t ≡ Open) × (place (h ++ es) t ≡ Gone))
closes_all pool h [] t so all unmoved known = inl (ap (λ (h : List Event). place h t) (append-nil h))
closes_all pool h (e ∷ es) t so all unmoved known =
    rw (← append_assoc h (e ∷ []) es)
    (go (unmoved_closes pool h e t so all.0 still known)
    (closes_all pool (h ++ e ∷ []) es t (allowed_more pool [] h e so all.0) all.1 parts.1 (ap (is_in t) (unmoved_tasks h e still) ∙ known)))
  where
    parts : (not (moves e) ≡ true) × (list_all (λ e. not (moves e)) es ≡ true)
    parts = and_parts (not (moves e)) (list_all (λ e. not (moves e)) es) unmoved

    flip : (b : Bool) → not b ≡ true → b ≡ false
    flip true is = absurd cc
    flip false is = refl

    still : moves e ≡ false
    still = flip (moves e) parts.0

    go : (place (h ++ e ∷ []) t ≡ place h t) ⊎ ((place h t ≡ Open) × (place (h ++ e ∷ []) t ≡ Gone))
        → (place ((h ++ e ∷ []) ++ es) t ≡ place (h ++ e ∷ []) t) ⊎ ((place (h ++ e ∷ []) t ≡ Open) × (place ((h ++ e ∷ []) ++ es) t ≡ Gone))
        → (place ((h ++ e ∷ []) ++ es) t ≡ place h t) ⊎ ((place h t ≡ Open) × (place ((h ++ e ∷ []) ++ es) t ≡ Gone))
    go (inl one) (inl more) = inl (more ∙ one)
    go (inl one) (inr more) = inr (sym one ∙ more.0, more.1)
    go (inr one) (inl more) = inr (one.0, more ∙ one.1)
    go (inr one) (inr more) = absurd (apart (sym one.1 ∙ more.0))
      where
        apart : Gone ≡ Open → ⊥
        apart same = cc

-- so a body waits on, unless its task is gone
pub waits_on : (p p' : Place) → (p' ≡ p) ⊎ ((p ≡ Open) × (p' ≡ Gone)) → is_waiting p' ≡ (is_waiting p && not (is_gone p'))
waits_on p p' (inl same) = rw same (go p)
  where
    go : (p : Place) → is_waiting p ≡ (is_waiting p && not (is_gone p))
    go (Queued o) = refl
    go (Held w) = refl
    go Open = refl
    go Gone = refl
waits_on p p' (inr went) = rw (went.0, went.1) refl

-- ---- the end of a plain task's body

ended_body : (pool : Pool) (h : List Event) (t w u : ℕ) → AllowedFrom pool [] h → Allowed pool h (End t w) → is_completer h t ≡ false → has_body (h ++ End t w ∷ []) u ≡ has_body h u
unfolding has_body
ended_body pool h t w u so may plain = ⊎_elim here other (cases_eq t u)
  where
    same_tasks : tasks (h ++ End t w ∷ []) ≡ tasks h
    same_tasks = tasks_same h (End t w) refl

    gone : place (h ++ End t w ∷ []) t ≡ Gone
    gone = ended_place pool h t w so may ∙ rw plain refl

    held : place h t ≡ Held w
    held = place_held pool h w t so (ended_held pool h t w may)

    here : t ≡ u → has_body (h ++ End t w ∷ []) u ≡ has_body h u
    here same = rw (← same) (same_body h (h ++ End t w ∷ []) t (ap (is_in t) same_tasks) (λ known. rw (gone, held) refl))

    other : t ≢ u → has_body (h ++ End t w ∷ []) u ≡ has_body h u
    other apart = same_body h (h ++ End t w ∷ []) u (ap (is_in u) same_tasks) (λ known. ap is_waiting (ending_place pool h t w u so may (λ same. apart (sym same)) known))

settled_body : (pool : Pool) (h : List Event) (t u : ℕ) (s : Status) → AllowedFrom pool [] h → Allowed pool h (Settle t s) → is_waiting (place h t) ≡ false → has_body (h ++ Settle t s ∷ []) u ≡ has_body h u
unfolding has_body
settled_body pool h t u s so may idle = ⊎_elim here other (cases_eq t u)
  where
    same_tasks : tasks (h ++ Settle t s ∷ []) ≡ tasks h
    same_tasks = tasks_same h (Settle t s) refl

    here : t ≡ u → has_body (h ++ Settle t s ∷ []) u ≡ has_body h u
    here same = rw (← same) (same_body h (h ++ Settle t s ∷ []) t (ap (is_in t) same_tasks)
        (λ known. waits_on (place h t) (place (h ++ Settle t s ∷ []) t) (unmoved_closes pool h (Settle t s) t so may refl known) ∙ rw idle refl))

    other : t ≢ u → has_body (h ++ Settle t s ∷ []) u ≡ has_body h u
    other apart = same_body h (h ++ Settle t s ∷ []) u (ap (is_in u) same_tasks) (λ known. ap is_waiting (spending_place pool h (Settle t s) t u so may refl (λ same. apart (sym same)) known))

-- a plain task's body ends: no body that waits is touched
pub ok_bodies : {B : Type 0} (pool : Pool) (h : List Event) (t w : ℕ) (bodies : Entries B) → AllowedFrom pool [] h → AllowedFrom pool h (End t w ∷ settling (h ++ End t w ∷ []) t Normal) → is_completer h t ≡ false → HoldsBodies h bodies
    → HoldsBodies (h ++ End t w ∷ settling (h ++ End t w ∷ []) t Normal) bodies
ok_bodies pool h t w bodies so all plain holds u = go (is_undone (status (h ++ End t w ∷ []) t)) refl all.1
  where
    so' : AllowedFrom pool [] (h ++ End t w ∷ [])
    so' = allowed_more pool [] h (End t w) so all.0

    one : is_there bodies u ≡ has_body (h ++ End t w ∷ []) u
    one = holds u ∙ sym (ended_body pool h t w u so all.0 plain)

    gone : place (h ++ End t w ∷ []) t ≡ Gone
    gone = ended_place pool h t w so all.0 ∙ rw plain refl

    go : (b : Bool) → is_undone (status (h ++ End t w ∷ []) t) ≡ b → AllowedFrom pool (h ++ End t w ∷ []) (if b then Settle t Normal ∷ [] else [])
        → is_there bodies u ≡ has_body (h ++ End t w ∷ (if b then Settle t Normal ∷ [] else [])) u
    go false is rest = one
    go true is rest =
        one ∙ sym (settled_body pool (h ++ End t w ∷ []) t u Normal so' rest.0 (ap is_waiting gone)) ∙ ap (λ (h : List Event). has_body h u) (append_assoc h (End t w ∷ []) (Settle t Normal ∷ []))
