-- A plain task's body ends.
use Rattle.std.proofs.Common.{ℕ, suc, ◌≡◌, ◌-◌, ◌<◌, Bool, true, false, List, [], ◌∷◌, ◌++◌, length, map, take, Option, Some, None, refl, ap, sym, ◌∙◌, arith, append_assoc, length-append}
use Rattle.std.specs.Prelude.{if◌then◌else◌, slice_get}
use Rattle.std.proofs.lemmas.List.{append-nil}
use Rattle.std.proofs.lemmas.Bool.{eq-eqb, or_right}
use Rattle.fj_rules.specs.declared.event.Event.{Event}
use Rattle.fj_rules.specs.declared.event.Event.TheVariants.{Settle, Rel}
use Rattle.fj_rules.specs.declared.event.Event.TheVariants as event
use Rattle.fj_rules.specs.declared.status.Status.TheVariants.{Normal}
use Rattle.fj_rules.specs.declared.step.Step.TheVariants.{End}
use Rattle.fj_rules.specs.declared.step.Ending.TheVariants.{Ok as EndOk}
use Rattle.fj_rules.specs.Bounds.{Pool}
use Rattle.fj_rules.specs.Lists.{is_in, last_of}
use Rattle.fj_rules.specs.Tasks.{is_kept, released}
use Rattle.fj_rules.specs.Statuses.{status, is_undone}
use Rattle.fj_rules.specs.Stacks.{stack}
use Rattle.fj_rules.specs.Hooks.{hand as hook_of}
use Rattle.fj_rules.specs.Allowed.{AllowedFrom}
use Rattle.fj_rules.specs.Answers.{answer, settling}
use Rattle.fj_rules.specs.Epochs.{IsPast}
use Rattle.fj_rules.specs.Runs.{Past, grown}
use Rattle.fj_rules.proofs.Lists.Members.{is_in_append}
use Rattle.fj_rules.proofs.Places.PlaceLaws.{unmoved_stack}
use Rattle.fj_rules.proofs.Events.Ends.{stack_end}
use Rattle.fj_rules.proofs.Places.KeptPlaces.{held_kept}
use Rattle.fj_rules.proofs.Steps.AnswersAllowed.{history_allowed, answer_allowed}
use Rattle.fj_rules.proofs.Events.Hands.{hand_same}
use Rattle.fj_slots.specs.Aside.{numbers}
use Rattle.fj_slots.specs.Shelves.{Entries}
use Rattle.fj_slots.specs.Hands.{HandState, HasOnTop, asker, hook_number}
use Rattle.fj_body.specs.Fitting.{Fits}
use Rattle.fj_body.specs.Stores.{IsStored}
use Rattle.fj_body.proofs.Stored.{stored_on, kept_on, numbers_more, numbers_long}
use Rattle.fj_rules.proofs.Steps.Answered.{OkDone}
use Rattle.fj_body.proofs.Taking.{released_fits}
use Rattle.fj_body.proofs.Closes.{ok_bodies}

none_released : (h : List Event) (t w : ℕ) → released (event.End t w ∷ settling h t Normal) ≡ []
unfolding released
none_released h t w = go (is_undone (status h t))
  where
    go : (b : Bool) → released (event.End t w ∷ (if b then Settle t Normal ∷ [] else [])) ≡ []
    go true = refl
    go false = refl

pub ok_stored : {B R : Type 0} (past new : Past) (w : ℕ) (bodies : Entries B) (results : Entries R) (ts : List ℕ) → IsStored past bodies results ts → new ≡ grown past (answer past (End w EndOk)).1
    → OkDone past.events w (answer past (End w EndOk)).1 → IsStored new bodies results ts
ok_stored past new w bodies results ts is grew done =
    let h = past.events in
    let t = done.task in
    let es = event.End t w ∷ settling (h ++ event.End t w ∷ []) t Normal in
    let all : AllowedFrom past.pool h es = rw done.made at (answer_allowed past (End w EndOk) is.run) in
    stored_on past new (End w EndOk) es bodies bodies results ts is grew done.made (none_released (h ++ event.End t w ∷ []) t w)
    (ok_bodies past.pool h t w bodies (history_allowed past is.run) all done.plain is.bodies_held)

-- ---- the hand

pub last_filled : (t : ℕ) (ts : List ℕ) → last_of ts ≡ Some t → 0 < length ts
last_filled t [] is = absurd cc
last_filled t (u ∷ us) is = omega arith

pub filled : {B : Type 0} (past : Past) (hand : HandState B) (w : ℕ) (events : List Event) → Fits past hand → w ≡ hand.worker → OkDone past.events w events → 0 < length hand.stack
filled past hand w events fits same done =
    let there : last_of (numbers hand.stack) ≡ Some done.task = rw fits.bodies (rw same at done.runs) in
    omega (arith, last_filled done.task (numbers hand.stack) there, numbers_long hand.stack)

pub newest_kept : {B : Type 0} (past : Past) (hand hand' : HandState B) (w t : ℕ) (body : B) → IsPast past → Fits past hand → w ≡ hand.worker → HasOnTop hand hand' t body
    → OkDone past.events w (answer past (End w EndOk)).1 → is_kept (past.events ++ (answer past (End w EndOk)).1) t ≡ true
newest_kept past hand hand' w t body run fits same held done =
    let stack_is : numbers hand'.stack ++ t ∷ [] ≡ stack past.events hand.worker = sym (numbers_more hand'.stack t body) ∙ ap (λ x. numbers x.stack) (sym held.1) ∙ fits.bodies in
    let there : is_in t (stack past.events hand.worker) ≡ true = rw (← stack_is, is_in_append t (numbers hand'.stack) (t ∷ [])) (or_right (is_in t (numbers hand'.stack)) (is_in t (t ∷ [])) (itself t)) in
    let kept = held_kept past.pool past.events hand.worker t (history_allowed past run) there in
    rw done.made (kept_on past.events (event.End done.task w ∷ settling (past.events ++ event.End done.task w ∷ []) done.task Normal) t (none_released (past.events ++ event.End done.task w ∷ []) done.task w) kept)
  where
    itself : (t : ℕ) → is_in t (t ∷ []) ≡ true
    itself t = rw (eq-eqb t t refl) refl

pub take_front : (xs : List ℕ) (t : ℕ) → take (length (xs ++ t ∷ []) - 1) (xs ++ t ∷ []) ≡ xs
take_front [] t = refl
take_front (x ∷ xs) t =
    let shorter : length (x ∷ xs ++ t ∷ []) - 1 ≡ suc (length (xs ++ t ∷ []) - 1) = omega (arith, length-append xs (t ∷ [])) in
    rw shorter (ap (λ ys. x ∷ ys) (take_front xs t))

after_settling : (h : List Event) (t u w : ℕ) → stack (h ++ settling h t Normal) w ≡ stack h w
after_settling h t u w = go (is_undone (status h t))
  where
    go : (b : Bool) → stack (h ++ (if b then Settle t Normal ∷ [] else [])) w ≡ stack h w
    go true = unmoved_stack h (Settle t Normal) w refl
    go false = ap (λ (h : List Event). stack h w) (append-nil h)

hook_settling : (h : List Event) (t w : ℕ) → hook_of (h ++ settling h t Normal) w ≡ hook_of h w
hook_settling h t w = go (is_undone (status h t))
  where
    go : (b : Bool) → hook_of (h ++ (if b then Settle t Normal ∷ [] else [])) w ≡ hook_of h w
    go true = hand_same h (Settle t Normal) w refl
    go false = ap (λ (h : List Event). hook_of h w) (append-nil h)

ended_stack : (pool : Pool) (h : List Event) (t w : ℕ) (xs : List ℕ) (u : ℕ) → AllowedFrom pool [] h → last_of (stack h w) ≡ Some t → stack h w ≡ xs ++ u ∷ []
    → stack (h ++ event.End t w ∷ settling (h ++ event.End t w ∷ []) t Normal) w ≡ xs
ended_stack pool h t w xs u so last parts =
    ap (λ (h : List Event). stack h w) (sym (append_assoc h (event.End t w ∷ []) (settling (h ++ event.End t w ∷ []) t Normal)))
    ∙ after_settling (h ++ event.End t w ∷ []) t u w ∙ stack_end pool h w t so last ∙ rw parts (take_front xs u)

ended_hook : (h : List Event) (t w : ℕ) → hook_of (h ++ event.End t w ∷ settling (h ++ event.End t w ∷ []) t Normal) w ≡ hook_of h w
ended_hook h t w =
    ap (λ (h : List Event). hook_of h w) (sym (append_assoc h (event.End t w ∷ []) (settling (h ++ event.End t w ∷ []) t Normal)))
    ∙ hook_settling (h ++ event.End t w ∷ []) t w ∙ hand_same h (event.End t w) w refl

pub ok_fits : {B : Type 0} (past past' past'' : Past) (hand hand' : HandState B) (w t : ℕ) (body : B) (events : List Event) (ts : List ℕ) → IsPast past → Fits past hand → w ≡ hand.worker
    → HasOnTop hand hand' t body → past' ≡ grown past events → OkDone past.events w events → past'' ≡ grown past' (map Rel ts) → Fits past'' hand'
ok_fits past past' past'' hand hand' w t body events ts run fits same held grew done more =
    released_fits past' past'' hand' ts (rw (grew, done.made) (record {
      there = rw held.1 at fits.there;
      bodies = sym (rw (same, held.1) (ended_stack past.pool past.events done.task hand'.worker (numbers hand'.stack) t (history_allowed past run) (rw (same, held.1) at done.runs) stack_is));
      hook = (rw held.1 at fits.hook) ∙ sym (rw (same, held.1) (ended_hook past.events done.task hand'.worker));
    })) more
  where
    stack_is : stack past.events hand'.worker ≡ numbers hand'.stack ++ t ∷ []
    stack_is = sym (rw held.1 at fits.bodies) ∙ numbers_more hand'.stack t body

-- ---- who asks

pub newest_is : {X : Type 0} (xs : List X) (x : X) → slice_get (xs ++ x ∷ []) (length (xs ++ x ∷ []) - 1) ≡ Some x
newest_is [] x = refl
newest_is (y ∷ xs) x =
    let shorter : length (y ∷ xs ++ x ∷ []) - 1 ≡ suc (length (xs ++ x ∷ []) - 1) = omega (arith, length-append xs (x ∷ [])) in
    rw shorter (newest_is xs x)

no_hook_of : {B : Type 0} (hook : Option (ℕ × B)) → hook_number hook ≡ None → hook ≡ None
no_hook_of None is = refl
no_hook_of (Some x) is = absurd cc

pub asker_is : {B : Type 0} (past : Past) (hand hand' : HandState B) (w t : ℕ) (body : B) → Fits past hand → w ≡ hand.worker → hook_of past.events w ≡ None → HasOnTop hand hand' t body → asker hand ≡ Some (t, body)
asker_is past hand hand' w t body fits same free held =
    let none : hand'.hook ≡ None = no_hook_of hand'.hook (rw held.1 at (fits.hook ∙ ap (hook_of past.events) (sym same) ∙ free)) in
    rw (held.1, none) (newest_is hand'.stack (t, body))
