-- A task is taken from its queue.
use Rattle.std.proofs.Common.{ℕ, ◌≡◌, ◌≤◌, ◌<◌, true, List, [], ◌∷◌, ◌++◌, length, Some, None, refl, ap, sym, ◌∙◌, arith, length-append, map, append_assoc}
use Rattle.std.proofs.lemmas.Bool.{eq-eqb, true≢false}
use Rattle.std.proofs.lemmas.List.{append-nil}
use Rattle.fj_rules.specs.declared.event.Event.{Event}
use Rattle.fj_rules.specs.declared.event.Event.TheVariants.{Out, Skip, Rel}
use Rattle.fj_rules.specs.declared.limits.TheConstants.{MAX_TASKS}
use Rattle.fj_rules.specs.declared.step.Step.{Step}
use Rattle.fj_rules.specs.Bounds.{Pool}
use Rattle.fj_rules.specs.Queues.{taken_by}
use Rattle.fj_rules.specs.Tasks.{released}
use Rattle.fj_rules.specs.Stacks.{stack}
use Rattle.fj_rules.specs.Hooks.{hand, hand as hook_of}
use Rattle.fj_rules.proofs.Events.Releasing.{release_stack}
use Rattle.fj_rules.specs.Allowed.{Allowed, AllowedFrom}
use Rattle.fj_rules.specs.Answers.{answer}
use Rattle.fj_rules.specs.Epochs.{IsPast}
use Rattle.fj_rules.specs.Runs.{Past, grown}
use Rattle.fj_rules.proofs.Events.Growth.{stack_more, stack_same, without_none}
use Rattle.fj_rules.proofs.Events.Ends.{stack_once}
use Rattle.fj_rules.proofs.Places.FewLive.{few_live}
use Rattle.fj_rules.proofs.Places.KeptPlaces.{held_kept, few_kept}
use Rattle.fj_rules.proofs.Events.Taking.{taken_queued, taken_accepted}
use Rattle.fj_rules.proofs.Places.PlacesKept.{place_queued}
use Rattle.fj_rules.proofs.Steps.AnswersAllowed.{history_allowed, answer_allowed}
use Rattle.fj_rules.proofs.Steps.RunsGrow.{history_more}
use Rattle.fj_rules.proofs.Events.Hands.{hand_same}
use Rattle.fj_slots.specs.Shelves.{Entries, without_entry}
use Rattle.fj_slots.specs.Hands.{HandState, with_body}
use Rattle.fj_body.specs.Fitting.{Fits}
use Rattle.fj_body.specs.Stores.{has_body, IsStored}
use Rattle.fj_body.proofs.Bodies.{out_bodies, skip_bodies}
use Rattle.fj_body.proofs.Stored.{stored_on, numbers_more, numbers_long}
use Rattle.std.specs.Prelude.{is_some}
use Rattle.std.proofs.lemmas.Bool.{true≢false}

-- its body stands there
taken_has : (pool : Pool) (h : List Event) (e : Event) (t : ℕ) → AllowedFrom pool [] h → Allowed pool h e → taken_by e ≡ Some t → has_body h t ≡ true
unfolding has_body
taken_has pool h e t so may is =
    let there = taken_queued pool h e t may is in rw (taken_accepted pool h e t may is, place_queued pool h there.0 t so there.1) refl

pub taken_there : {B R : Type 0} (past : Past) (asked : Step) (e : Event) (t : ℕ) (bodies : Entries B) (results : Entries R) (ts : List ℕ) → IsStored past bodies results ts → (answer past asked).1 ≡ e ∷ [] → taken_by e ≡ Some t → bodies t ≡ None → ⊥
taken_there past asked e t bodies results ts is made by none =
    let may = (rw made at (answer_allowed past asked is.run)).0 in
    true≢false (sym (is.bodies_held t ∙ taken_has past.pool past.events e t (history_allowed past is.run) may by) ∙ ap is_some none)

none_let_go : (t w : ℕ) → released (Out t w ∷ []) ≡ []
unfolding released
none_let_go t w = refl

none_let_go_skip : (t w : ℕ) → released (Skip t w ∷ []) ≡ []
unfolding released
none_let_go_skip t w = refl

pub out_stored : {B R : Type 0} (past new : Past) (asked : Step) (t w : ℕ) (bodies bodies' : Entries B) (results : Entries R) (ts : List ℕ) → IsStored past bodies results ts → new ≡ grown past (answer past asked).1
    → (answer past asked).1 ≡ Out t w ∷ [] → bodies' ≡ without_entry bodies t → IsStored new bodies' results ts
out_stored past new asked t w bodies bodies' results ts is grew made less =
    stored_on past new asked (Out t w ∷ []) bodies bodies' results ts is grew made (none_let_go t w)
    (rw less (out_bodies past.pool past.events t w bodies (history_allowed past is.run) (rw made at (answer_allowed past asked is.run)).0 is.bodies_held))

pub skip_stored : {B R : Type 0} (past new : Past) (asked : Step) (t w : ℕ) (bodies bodies' : Entries B) (results : Entries R) (ts : List ℕ) → IsStored past bodies results ts → new ≡ grown past (answer past asked).1
    → (answer past asked).1 ≡ Skip t w ∷ [] → bodies' ≡ without_entry bodies t → IsStored new bodies' results ts
skip_stored past new asked t w bodies bodies' results ts is grew made less =
    stored_on past new asked (Skip t w ∷ []) bodies bodies' results ts is grew made (none_let_go_skip t w)
    (rw less (skip_bodies past.pool past.events t w bodies (history_allowed past is.run) (rw made at (answer_allowed past asked is.run)).0 is.bodies_held))

-- ---- the hand

stack_out : (h : List Event) (t w : ℕ) → stack (h ++ Out t w ∷ []) w ≡ stack h w ++ t ∷ []
stack_out h t w = stack_more h w (Out t w) ∙ rw (eq-eqb w w refl) (ap (λ ts. ts ++ t ∷ []) (without_none (stack h w)))

-- one body more has room in the hand
pub out_room : {B : Type 0} (past : Past) (asked : Step) (hand : HandState B) (t : ℕ) → IsPast past → past.pool.limits.tasks ≤ MAX_TASKS → Fits past hand
    → (answer past asked).1 ≡ Out t hand.worker ∷ [] → length hand.stack < MAX_TASKS
out_room past asked hand t run few fits made =
    let h = past.events in
    let w = hand.worker in
    let so : AllowedFrom past.pool [] (h ++ Out t w ∷ []) = history_allowed (grown past (Out t w ∷ [])) (rw made at (history_more past asked run)) in
    let many = few_kept past.pool (h ++ Out t w ∷ []) (stack (h ++ Out t w ∷ []) w) so (stack_once past.pool (h ++ Out t w ∷ []) w so) (λ u there. held_kept past.pool (h ++ Out t w ∷ []) w u so there) in
    omega (arith, few, many, few_live past.pool (h ++ Out t w ∷ []) so, ap (λ (ns : List ℕ). length ns) (stack_out h t w), length-append (stack h w) (t ∷ []), ap (λ (ns : List ℕ). length ns) fits.bodies, numbers_long hand.stack)

-- ---- as a store takes

released_stack : (h : List Event) (ts : List ℕ) (w : ℕ) → stack (h ++ map Rel ts) w ≡ stack h w
released_stack h [] w = rw (append-nil h) refl
released_stack h (t ∷ ts) w = rw (← append_assoc h (Rel t ∷ []) (map Rel ts)) (released_stack (h ++ Rel t ∷ []) ts w ∙ release_stack h t w)

released_hand : (h : List Event) (ts : List ℕ) (w : ℕ) → hand (h ++ map Rel ts) w ≡ hand h w
released_hand h [] w = rw (append-nil h) refl
released_hand h (t ∷ ts) w = rw (← append_assoc h (Rel t ∷ []) (map Rel ts)) (released_hand (h ++ Rel t ∷ []) ts w ∙ hand_same h (Rel t) w refl)

pub released_fits : {B : Type 0} (past past' : Past) (hand : HandState B) (ts : List ℕ) → Fits past hand → past' ≡ grown past (map Rel ts) → Fits past' hand
released_fits past past' hand ts fits grew = rw grew (record {
  there = fits.there;
  bodies = fits.bodies ∙ sym (released_stack past.events ts hand.worker);
  hook = fits.hook ∙ sym (released_hand past.events ts hand.worker);
})

pub empty_stack : {B : Type 0} (past : Past) (hand : HandState B) → Fits past hand → hand.stack ≡ [] → stack past.events hand.worker ≡ []
empty_stack past hand fits none = sym fits.bodies ∙ rw none refl

pub no_hook : {B : Type 0} (past : Past) (hand : HandState B) → Fits past hand → hand.hook ≡ None → hook_of past.events hand.worker ≡ None
no_hook past hand fits none = sym fits.hook ∙ rw none refl

-- ---- the same, with the scan word used before

pub chosen_run_fits : {B : Type 0} (past past' : Past) (hand hand' : HandState B) (t : ℕ) (body : B) (events : List Event) → Fits past hand → past' ≡ grown past events → events ≡ Out t hand.worker ∷ []
    → hand' ≡ with_body hand t body → Fits past' hand'
chosen_run_fits past past' hand hand' t body events fits grew made held = rw (grew, made, held) (record {
  there = fits.there;
  bodies = numbers_more hand.stack t body ∙ ap (λ ns. ns ++ t ∷ []) fits.bodies ∙ sym (stack_out past.events t hand.worker);
  hook = fits.hook ∙ sym (hand_same past.events (Out t hand.worker) hand.worker refl);
})

pub chosen_same_fits : {B : Type 0} (past past' : Past) (hand : HandState B) (events : List Event) → Fits past hand → past' ≡ grown past events → events ≡ [] → Fits past' hand
chosen_same_fits past past' hand events fits grew none =
    let same : past' ≡ past = grew ∙ rw (none, append-nil past.events) refl in
    rw same fits

pub chosen_skip_fits : {B : Type 0} (past mid past' : Past) (hand : HandState B) (t : ℕ) (events : List Event) (ts : List ℕ) → Fits past hand
    → mid ≡ grown past events → events ≡ Skip t hand.worker ∷ [] → past' ≡ grown mid (map Rel ts) → Fits past' hand
chosen_skip_fits past mid past' hand t events ts fits grew made more = released_fits mid past' hand ts (rw (grew, made) (record {
  there = fits.there;
  bodies = fits.bodies ∙ sym (stack_same past.events hand.worker (Skip t hand.worker) refl refl);
  hook = fits.hook ∙ sym (hand_same past.events (Skip t hand.worker) hand.worker refl);
})) more
