-- A task is released.
use Rattle.std.proofs.Common.{ℕ, ◌≡◌, ◌≢◌, ◌+◌, ◌≤◌, ◌&&◌, not, Bool, true, false, List, [], ◌∷◌, ◌++◌, length, refl, ap, sym, ◌∙◌, subst, arith}
use Rattle.std.specs.Prelude.{if◌then◌else◌}
use Rattle.std.proofs.lemmas.Bool.{and_parts, eq-eqb, true≢false, ltb-true}
use Rattle.fj_rules.specs.declared.event.Event.{Event}
use Rattle.fj_rules.specs.declared.event.Event.TheVariants.{Rel}
use Rattle.fj_rules.specs.declared.step.Step.TheVariants.{Release}
use Rattle.fj_rules.specs.declared.said.Said.{Said}
use Rattle.fj_rules.specs.declared.said.Said.TheVariants as says
use Rattle.fj_rules.specs.declared.refusal.Refusal.{Refusal}
use Rattle.fj_rules.specs.declared.refusal.Refusal.TheVariants.{LogFull}
use Rattle.fj_rules.specs.Bounds.{Pool}
use Rattle.fj_rules.specs.Lists.{is_in, times_in, without}
use Rattle.fj_rules.specs.Tasks.{is_kept}
use Rattle.fj_rules.specs.Places.{place, is_gone}
use Rattle.fj_rules.specs.Allowed.{Allowed, AllowedFrom, has_kept_child}
use Rattle.fj_rules.specs.Answers.{answer, does_not_fit, events_of}
use Rattle.fj_rules.specs.Pasts.{limit}
use Rattle.fj_rules.specs.Runs.{Past, grown}
use Rattle.fj_rules.proofs.Lists.Members.{is_in_filter, times_in_filter}
use Rattle.fj_rules.proofs.Events.Releasing.{release_keeps, release_tasks, release_place}
use Rattle.fj_rules.proofs.Steps.AnswersAllowed.{history_allowed, answer_allowed}
use Rattle.fj_rules.proofs.Steps.RunsGrow.{history_more}
use Rattle.std.specs.Prelude.{Option, None, is_some}
use Rattle.fj_slots.specs.Shelves.{Entries}
use Rattle.fj_body.specs.Stores.{is_waiting, HoldsBodies, GivesNoMore, IsStored}
use Rattle.fj_rules.specs.Releasable.{hooked, is_hooked}
use Rattle.fj_rules.specs.Releasable.{can_go}
use Rattle.fj_rules.proofs.Events.KindsKept.{kept_known}
use Rattle.fj_rules.proofs.Events.Releasable.{can_parts}
use Rattle.fj_body.proofs.Given.{given_on}
use Rattle.fj_body.proofs.InHands.{unreleased_rel}
use Rattle.fj_body.proofs.Bodies.{same_body}
use Rattle.fj_rules.proofs.Steps.Answered.{ReleaseGives, Went, Finds, Stays, release_gives}

-- ---- what is left

pub in_without : (u t : ℕ) (ts : List ℕ) → is_in u (without ts (t ∷ [])) ≡ true → (is_in u ts ≡ true) × (u ≢ t)
in_without u t ts there =
    let parts = and_parts (is_in u ts) (not (is_in u (t ∷ []))) (sym (is_in_filter (λ v. not (is_in v (t ∷ []))) u ts) ∙ there) in
    (parts.0, λ same. let here : is_in u (t ∷ []) ≡ true = rw (same, eq-eqb t t refl) refl in true≢false (sym parts.1 ∙ ap not here))

-- what is left was there before
pub in_rest : (u : ℕ) (ts us : List ℕ) → is_in u (without ts us) ≡ true → is_in u ts ≡ true
in_rest u ts us there = (and_parts (is_in u ts) (not (is_in u us)) (sym (is_in_filter (λ v. not (is_in v us)) u ts) ∙ there)).0

pub without_once : (t u : ℕ) (ts : List ℕ) → times_in u ts ≤ 1 → times_in u (without ts (t ∷ [])) ≤ 1
without_once t u ts once = rw (times_in_filter (λ v. not (is_in v (t ∷ []))) u ts) (go (not (is_in u (t ∷ []))))
  where
    go : (b : Bool) → (if b then times_in u ts else 0) ≤ 1
    go true = once
    go false = omega arith

-- ---- a store

release_bodies : {B : Type 0} (pool : Pool) (h : List Event) (t : ℕ) (bodies : Entries B) → AllowedFrom pool [] h → Allowed pool h (Rel t) → HoldsBodies h bodies → HoldsBodies (h ++ Rel t ∷ []) bodies
release_bodies pool h t bodies so may holds u =
    holds u ∙ sym (same_body h (h ++ Rel t ∷ []) u (ap (is_in u) (release_tasks h t)) (λ known. ap is_waiting (release_place pool h t u so may known)))

not_hooked : (h : List Event) (t : ℕ) → false ≡ is_hooked h t → is_in t (hooked h) ≡ false
unfolding is_hooked
not_hooked h t free = sym free

pub release_stored : {B R : Type 0} (past : Past) (t : ℕ) (bodies : Entries B) (results : Entries R) (ts : List ℕ) → IsStored past bodies results ts → results t ≡ None → false ≡ is_hooked past.events t
    → (answer past (Release t)).1 ≡ Rel t ∷ [] → IsStored (grown past (answer past (Release t)).1) bodies results (without ts (t ∷ []))
release_stored {B} {R} past t bodies results ts is without_result free made =
    let h = past.events in
    let may = (rw made at (answer_allowed past (Release t) is.run)).0 in
    record {
      run = history_more past (Release t) is.run;
      bodies_held = rw made (release_bodies past.pool h t bodies (history_allowed past is.run) may is.bodies_held);
      results_kept = λ u there. ap (λ (es : List Event). is_kept (h ++ es) u) made ∙ release_keeps h t u (λ same. differs (results u) (ap results same ∙ without_result) there) ∙ is.results_kept u there;
      results_given = λ u there.
          subst (λ (es : List Event). GivesNoMore (h ++ es) u) (sym made) (given_on past.pool h (Rel t ∷ []) u (history_allowed past is.run) (may, tt) (kept_known h u (is.results_kept u there)) (is.results_given u there));
      taken_kept = rw made (record {
        kept = λ u there. let parts = in_without u t ts there in release_keeps h t u parts.1 ∙ is.taken_kept.kept u parts.0;
        once = λ u. without_once t u ts (is.taken_kept.once u);
      });
      apart = λ u there. is.apart u (in_without u t ts there).0;
      hooks_kept = rw made (unreleased_rel h t (not_hooked h t free) is.hooks_kept);
    }
  where
    differs : (o : Option R) → o ≡ None → is_some o ≡ true → ⊥
    differs o none some = true≢false (sym some ∙ ap is_some none)

-- ---- the answer, as the store reads it

hooked_parts : (k g c f : Bool) → f ≡ true → (k && g && not c && not f) ≡ false
hooked_parts false g c f is = refl
hooked_parts true false c f is = refl
hooked_parts true true true f is = refl
hooked_parts true true false f is = rw is refl

unhooked_parts : (k g c f : Bool) → f ≡ false → (k && g && not c && not f) ≡ (k && g && not c)
unhooked_parts false g c f is = refl
unhooked_parts true false c f is = refl
unhooked_parts true true true f is = refl
unhooked_parts true true false f is = rw is refl

pub hooked_stays : (h : List Event) (t : ℕ) → true ≡ is_hooked h t → can_go h t ≡ false
unfolding can_go
hooked_stays h t hooked = hooked_parts (is_kept h t) (is_gone (place h t)) (has_kept_child h t) (is_hooked h t) (sym hooked)

unhooked_is : (h : List Event) (t : ℕ) → false ≡ is_hooked h t → can_go h t ≡ (is_kept h t && is_gone (place h t) && not (has_kept_child h t))
unfolding can_go
unhooked_is h t free = unhooked_parts (is_kept h t) (is_gone (place h t)) (has_kept_child h t) (is_hooked h t) (sym free)

pub went : (past : Past) (t : ℕ) (reply : Said) → false ≡ is_hooked past.events t → reply ≡ (answer past (Release t)).0 → reply ≡ says.Done
    → (can_go past.events t ≡ true) × ((answer past (Release t)).1 ≡ Rel t ∷ [])
went past t reply free is said = go (release_gives past t)
  where
    go : ReleaseGives (is_kept past.events t && is_gone (place past.events t) && not (has_kept_child past.events t)) (does_not_fit past (Release t)) t (answer past (Release t)).0 (answer past (Release t)).1
        → (can_go past.events t ≡ true) × ((answer past (Release t)).1 ≡ Rel t ∷ [])
    go (Went good done made) = (unhooked_is past.events t free ∙ good, made)
    go (Finds good full done made) = absurd (differs (sym said ∙ is ∙ done))
      where
        differs : says.Done ≡ says.Refused LogFull → ⊥
        differs same = cc
    go (Stays r bad not_full done made) = absurd (differs (sym said ∙ is ∙ done))
      where
        differs : says.Done ≡ says.Refused r → ⊥
        differs same = cc

full_is : (past : Past) (t : ℕ) → does_not_fit past (Release t) ≡ true → limit past ≤ length past.events
unfolding events_of
full_is past t full = omega (arith, ltb-true (limit past) (length past.events + 1) full)

-- one that can go goes, where there is room
pub goes : (past : Past) (t : ℕ) → can_go past.events t ≡ true → length past.events + 1 ≤ limit past → (answer past (Release t)).1 ≡ Rel t ∷ []
goes past t can room = go (release_gives past t)
  where
    free : false ≡ is_hooked past.events t
    free = sym (can_parts past.events t can).free

    go : ReleaseGives (is_kept past.events t && is_gone (place past.events t) && not (has_kept_child past.events t)) (does_not_fit past (Release t)) t (answer past (Release t)).0 (answer past (Release t)).1
        → (answer past (Release t)).1 ≡ Rel t ∷ []
    go (Went good done made) = made
    go (Finds good full done made) = absurd (omega (arith, room, full_is past t full))
    go (Stays r bad other done made) = absurd (true≢false (sym can ∙ unhooked_is past.events t free ∙ bad))

pub finds_full : (past : Past) (t : ℕ) (reply : Said) → false ≡ is_hooked past.events t → reply ≡ (answer past (Release t)).0 → reply ≡ says.Refused LogFull
    → (can_go past.events t ≡ true) × (limit past ≤ length past.events)
finds_full past t reply free is said = go (release_gives past t)
  where
    go : ReleaseGives (is_kept past.events t && is_gone (place past.events t) && not (has_kept_child past.events t)) (does_not_fit past (Release t)) t (answer past (Release t)).0 (answer past (Release t)).1
        → (can_go past.events t ≡ true) × (limit past ≤ length past.events)
    go (Went good done made) = absurd (differs (sym said ∙ is ∙ done))
      where
        differs : says.Refused LogFull ≡ says.Done → ⊥
        differs same = cc
    go (Finds good full done made) = (unhooked_is past.events t free ∙ good, full_is past t full)
    go (Stays r bad not_full done made) = absurd (not_full (same_refusal (sym (sym said ∙ is ∙ done))))
      where
        same_refusal : says.Refused r ≡ says.Refused LogFull → r ≡ LogFull
        same_refusal same = cc

pub stays : (past : Past) (t : ℕ) (reply : Said) → false ≡ is_hooked past.events t → reply ≡ (answer past (Release t)).0 → (reply ≡ says.Done → ⊥) → (reply ≡ says.Refused LogFull → ⊥)
    → can_go past.events t ≡ false
stays past t reply free is not_done not_full = go (release_gives past t)
  where
    go : ReleaseGives (is_kept past.events t && is_gone (place past.events t) && not (has_kept_child past.events t)) (does_not_fit past (Release t)) t (answer past (Release t)).0 (answer past (Release t)).1
        → can_go past.events t ≡ false
    go (Went good done made) = absurd (not_done (is ∙ done))
    go (Finds good full done made) = absurd (not_full (is ∙ done))
    go (Stays r bad other done made) = unhooked_is past.events t free ∙ bad

pub release_replies : (past : Past) (t : ℕ) (reply : Said) → reply ≡ (answer past (Release t)).0 → (reply ≡ says.Done → ⊥) → ((r : Refusal) → reply ≡ says.Refused r → ⊥) → ⊥
release_replies past t reply is not_done not_refused = go (release_gives past t)
  where
    go : ReleaseGives (is_kept past.events t && is_gone (place past.events t) && not (has_kept_child past.events t)) (does_not_fit past (Release t)) t (answer past (Release t)).0 (answer past (Release t)).1 → ⊥
    go (Went good done made) = not_done (is ∙ done)
    go (Finds good full done made) = not_refused LogFull (is ∙ done)
    go (Stays r bad other done made) = not_refused r (is ∙ done)
