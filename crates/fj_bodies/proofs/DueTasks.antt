-- Which taken tasks may be such that they can be released, step by step.
use Rattle.std.proofs.Common.{ℕ, ◌≡◌, Bool, true, false, List, [], ◌∷◌, ◌++◌, refl, sym, ◌∙◌, ⊎_elim}
use Rattle.std.specs.Prelude.{if◌then◌else◌, ◌||◌}
use Rattle.std.specs.List.{list_all}
use Rattle.std.proofs.lemmas.Bool.{true≢false}
use Rattle.fj_rules.specs.declared.event.Event.{Event}
use Rattle.fj_rules.specs.declared.event.Event.TheVariants as event
use Rattle.fj_rules.specs.declared.step.Step.{Step}
use Rattle.fj_rules.specs.declared.step.Step.TheVariants as ask
use Rattle.fj_rules.specs.Lists.{is_in}
use Rattle.fj_rules.specs.Allowed.{is_closed, is_stopped}
use Rattle.fj_rules.specs.Answers.{answer, events_of}
use Rattle.fj_rules.specs.Pasts.{Past, grown}
use Rattle.fj_rules.proofs.Steps.AnswersAllowed.{history_allowed, answer_allowed}
use Rattle.fj_slots.specs.Shelves.{Entries}
use Rattle.fj_body.specs.Stores.{IsStored}
use Rattle.fj_rules.specs.Releasable.{can_go}
use Rattle.fj_bodies.specs.DueTasks.{AreDue, OnlyGoes, due_after}
use Rattle.fj_body.specs.Releases.{NoneGoes}
use Rattle.fj_body.specs.Asking.{is_calm}
use Rattle.fj_rules.proofs.Events.Releasable.{is_on_way, OnlyAbout, only_it_goes, none_goes}
use Rattle.fj_rules.proofs.Steps.AboutTasks.{quiet_root_about, fault_about, cancel_about}
use Rattle.fj_bodies.proofs.Results.{in_one_more}
use Rattle.fj_rules.proofs.Steps.Answered.{Answered, Refuses, Makes, answered}

pub cannot : (h : List Event) (u : ℕ) → (can_go h u ≡ true → ⊥) → can_go h u ≡ false
cannot h u never = go (can_go h u) refl
  where
    go : (b : Bool) → can_go h u ≡ b → b ≡ false
    go false at = refl
    go true at = absurd (never at)

-- after a step about t
pub step_due : {B R : Type 0} (past new : Past) (asked : Step) (bodies : Entries B) (results : Entries R) (ts : List ℕ) (t : ℕ) → IsStored past bodies results ts → new ≡ grown past (answer past asked).1
    → OnlyAbout past.events t (answer past asked).1 → NoneGoes past.events ts → OnlyGoes new.events ts t
step_due past new asked bodies results ts t is grew only none =
    rw grew (λ u there can. ⊎_elim (λ before. absurd (true≢false (sym before ∙ none u there))) (λ same. same)
    (only_it_goes past.pool past.events (answer past asked).1 t u (history_allowed past is.run) (answer_allowed past asked is.run) only (is.taken_kept.kept u there) can))

-- after a step about no task
pub still_rests : {B R : Type 0} (past new : Past) (asked : Step) (es : List Event) (bodies : Entries B) (results : Entries R) (ts : List ℕ) → IsStored past bodies results ts
    → new ≡ grown past (answer past asked).1 → (answer past asked).1 ≡ es → list_all (is_on_way []) es ≡ true → NoneGoes past.events ts → NoneGoes new.events ts
still_rests past new asked es bodies results ts is grew made none rests =
    rw (grew, made) (λ u there. cannot (past.events ++ es) u (λ can. true≢false (sym (could u there can) ∙ rests u there)))
  where
    could : (u : ℕ) → is_in u ts ≡ true → can_go (past.events ++ es) u ≡ true → can_go past.events u ≡ true
    could u there can = none_goes past.pool past.events es u (history_allowed past is.run) (rw made at (answer_allowed past asked is.run)) none (is.taken_kept.kept u there) can

-- with one more task taken
pub marked_due : (h : List Event) (ts : List ℕ) (t : ℕ) → NoneGoes h ts → OnlyGoes h (ts ++ t ∷ []) t
marked_due h ts t none u there can = ⊎_elim (λ old. absurd (true≢false (sym can ∙ none u old))) (λ same. sym same) (in_one_more u t ts there)

-- the events of these steps are about no task
abbrev quiet_step : Step → Bool
quiet_step (ask.Add w c n) = true
quiet_step ask.Shutdown = true
quiet_step (ask.State t) = true
quiet_step ask.IsQuiescent = true
quiet_step _ = false

quiet_about : (past : Past) (asked : Step) → quiet_step asked ≡ true → list_all (is_on_way []) (answer past asked).1 ≡ true
unfolding events_of
quiet_about past asked quiet = go (answered past asked)
  where
    made_about : (asked : Step) → quiet_step asked ≡ true → list_all (is_on_way []) (events_of past.pool past.events asked) ≡ true
    made_about (ask.Add w c n) quiet = refl
    made_about ask.Shutdown quiet = pick (is_closed past.events || is_stopped past.events)
      where
        pick : (b : Bool) → list_all (is_on_way []) (if b then [] else event.Close ∷ []) ≡ true
        pick true = refl
        pick false = refl
    made_about (ask.State t) quiet = refl
    made_about ask.IsQuiescent quiet = refl
    made_about _ quiet = absurd cc

    go : Answered past asked (answer past asked).0 (answer past asked).1 → list_all (is_on_way []) (answer past asked).1 ≡ true
    go (Refuses r said none) = rw none refl
    go (Makes stood said made) = rw made (made_about asked quiet)

-- after a step that hands no task out and ends no body
pub calm_due : {B R : Type 0} (past new : Past) (asked : Step) (bodies : Entries B) (results : Entries R) (ts : List ℕ) → IsStored past bodies results ts → is_calm asked ≡ true
    → new ≡ grown past (answer past asked).1 → NoneGoes past.events ts → AreDue new.events ts (due_after asked)
calm_due past new (ask.QuietRoot w t) bodies results ts is calm grew rests = step_due past new (ask.QuietRoot w t) bodies results ts t is grew (quiet_root_about past w t is.run) rests
calm_due past new (ask.Fault t code) bodies results ts is calm grew rests = step_due past new (ask.Fault t code) bodies results ts t is grew (fault_about past t code is.run) rests
calm_due past new (ask.Cancel t) bodies results ts is calm grew rests = step_due past new (ask.Cancel t) bodies results ts t is grew (cancel_about past t is.run) rests
calm_due past new ask.Stop bodies results ts is calm grew rests = tt
calm_due past new (ask.Add w c n) bodies results ts is calm grew rests = still_rests past new (ask.Add w c n) (answer past (ask.Add w c n)).1 bodies results ts is grew refl (quiet_about past (ask.Add w c n) refl) rests
calm_due past new ask.Shutdown bodies results ts is calm grew rests = still_rests past new ask.Shutdown (answer past ask.Shutdown).1 bodies results ts is grew refl (quiet_about past ask.Shutdown refl) rests
calm_due past new (ask.State t) bodies results ts is calm grew rests = still_rests past new (ask.State t) (answer past (ask.State t)).1 bodies results ts is grew refl (quiet_about past (ask.State t) refl) rests
calm_due past new ask.IsQuiescent bodies results ts is calm grew rests = still_rests past new ask.IsQuiescent (answer past ask.IsQuiescent).1 bodies results ts is grew refl (quiet_about past ask.IsQuiescent refl) rests
calm_due past new _ bodies results ts is calm grew rests = absurd cc
