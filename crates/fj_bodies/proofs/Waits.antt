-- What the releases of a call leave of a store.
use Rattle.std.proofs.Common.{ℕ, ◌≡◌, inl, inr, Bool, true, false, List, [], ◌∷◌, map, None, ap, sym, ◌∙◌, subst, arith, append_assoc, length-append, refl}
use Rattle.std.specs.Prelude.{◌==◌}
use Rattle.std.proofs.lemmas.Bool.{eq-eqb, or_right, true≢false}
use Rattle.std.proofs.lemmas.List.{append-nil}
use Rattle.fj_rules.specs.declared.event.Event.{Event}
use Rattle.fj_rules.specs.declared.event.Event.TheVariants.{Rel}
use Rattle.fj_rules.specs.declared.step.Step.{Step}
use Rattle.fj_rules.specs.declared.step.Step.TheVariants.{Release}
use Rattle.fj_rules.specs.Lists.{is_in, without}
use Rattle.fj_rules.specs.Answers.{answer}
use Rattle.fj_rules.specs.Epochs.{IsPast}
use Rattle.fj_rules.specs.Releasable.{CanAllGo}
use Rattle.fj_rules.specs.Runs.{Past, grown}
use Rattle.fj_rules.proofs.Events.Growth.{without_none}
use Rattle.fj_rules.proofs.Events.Releasable.{can_parts}
use Rattle.fj_rules.proofs.Steps.RunsGrow.{history_fits, history_more}
use Rattle.fj_slots.specs.Marked.{SerialList}
use Rattle.fj_slots.specs.Shelves.{Entries, Shelved, entries}
use Rattle.fj_bodies.specs.DueTasks.{HasRoom, HoldsStore}
use Rattle.fj_body.specs.Releases.{NoneGoes, Releases, RestsAt}
use Rattle.fj_body.specs.Stores.{IsStored, HasResults}
use Rattle.fj_bodies.specs.Waits.{WaitState, AreWaiting, ReleasesDue, waits}
use Rattle.fj_bodies.proofs.Chains.{without_twice}
use Rattle.fj_bodies.proofs.NoneLost.{release_results}
use Rattle.fj_bodies.proofs.Releases.{goes, release_stored}

-- what holds of a store but for its room
record Holds {B R : Type 0} (past : Past) (bodies : Entries B) (results : Entries R) (ts : List ℕ) : Type 0 where
  stored : IsStored past bodies results ts
  complete : HasResults past results ts

-- one task without a result is released
one_holds : {B R : Type 0} (past : Past) (t : ℕ) (bodies : Entries B) (results : Entries R) (ts us : List ℕ) → results t ≡ None → CanAllGo past.events (t ∷ us) → IsPast (grown past (map Rel (t ∷ us)))
    → Holds past bodies results ts → Holds (grown past (Rel t ∷ [])) bodies results (without ts (t ∷ []))
one_holds past t bodies results ts us none can run is = record {
  stored = subst (λ (es : List Event). IsStored (grown past es) bodies results (without ts (t ∷ []))) made
      (release_stored past t bodies results ts is.stored none (sym (can_parts past.events t can.0).free) made);
  complete = release_results past (grown past (Rel t ∷ [])) t results ts is.stored.run is.complete made (ap (grown past) (sym made));
}
  where
    made : (answer past (Release t)).1 ≡ Rel t ∷ []
    made = goes past t can.0 (omega (arith, history_fits (grown past (map Rel (t ∷ us))) run, length-append past.events (map Rel (t ∷ us))))

-- each of these tasks is released
all_hold : {B R : Type 0} (past : Past) (bodies : Entries B) (results : Entries R) (ts us : List ℕ) → ((u : ℕ) → is_in u us ≡ true → results u ≡ None) → CanAllGo past.events us → IsPast (grown past (map Rel us))
    → Holds past bodies results ts → Holds (grown past (map Rel us)) bodies results (without ts us)
all_hold past bodies results ts [] none can run is = rw (append-nil past.events, without_none ts) is
all_hold {B} {R} past bodies results ts (t ∷ us) none can run is =
    subst (Holds (grown past (map Rel (t ∷ us))) bodies results) (without_twice ts (t ∷ []) us)
    (subst (λ (h : List Event). Holds (record past { events = h }) bodies results (without (without ts (t ∷ [])) us)) (append_assoc past.events (Rel t ∷ []) (map Rel us))
    (all_hold (grown past (Rel t ∷ [])) bodies results (without ts (t ∷ [])) us (λ u there. none u (or_right (t == u) (is_in u us) there)) can.1
    (subst (λ (h : List Event). IsPast (record past { events = h })) (sym (append_assoc past.events (Rel t ∷ []) (map Rel us))) run)
    (one_holds past t bodies results ts us (none t (rw (eq-eqb t t refl) refl)) can run is)))

-- after a step of the machine the taken tasks wait as before
pub waits_on : {B R : Type 0} {past new : Past} {bodies : Entries B} {results : Entries R} {taken : SerialList} (asked : Step) → IsStored past bodies results taken.items → new ≡ grown past (answer past asked).1
    → AreWaiting (waits new taken)
waits_on {B} {R} {past} asked stored grew = record { run = subst IsPast (sym grew) (history_more past asked stored.run); once = stored.taken_kept.once }

-- what holds of every store holds after the releases
pub holds_now : {B R : Type 0} {old new : WaitState} {was stuck : Bool} (bodies : Shelved B) (results : Shelved R) → IsStored old.past (entries bodies) (entries results) old.taken.items
    → HasResults old.past (entries results) old.taken.items → HasRoom old.past.pool.limits.tasks bodies.room results.room old.taken.room → AreWaiting new → ReleasesDue old was new stuck
    → HoldsStore new.past bodies results new.taken stuck
holds_now {B} {R} {old} {new} {was} {stuck} bodies results stored complete room waiting releases = record {
  stored = subst (λ (w : WaitState). IsStored w.past (entries bodies) (entries results) w.taken.items) (sym releases.some.3) holds.stored;
  complete = subst (λ (w : WaitState). HasResults w.past (entries results) w.taken.items) (sym releases.some.3) holds.complete;
  room = subst (λ (w : WaitState). HasRoom w.past.pool.limits.tasks bodies.room results.room w.taken.room) (sym releases.some.3) room;
  rests = unless releases.rests;
}
  where
    holds : Holds (grown old.past (map Rel releases.some.0)) (entries bodies) (entries results) (without old.taken.items releases.some.0)
    holds =
        all_hold old.past (entries bodies) (entries results) old.taken.items releases.some.0 (λ u there. stored.apart u (releases.some.1 u there)) releases.some.2
        (subst (λ (w : WaitState). IsPast w.past) releases.some.3 waiting.run) (record { stored = stored; complete = complete })

    unless : RestsAt new.past new.taken.items was stuck → stuck ≡ false → NoneGoes new.past.events new.taken.items
    unless (inl rests) free = rests.1
    unless (inr full) free = absurd (true≢false (sym full.0 ∙ free))

-- the releases, as a store sees them
pub releases_now : {B K O : Type 0} {old new : WaitState} {was stuck : Bool} (bodies : Shelved B) (results : Shelved (K × O)) → ReleasesDue old was new stuck
    → Releases (record { past = old.past; bodies = bodies; results = results; taken = old.taken.items; stuck = was }) (record { past = new.past; bodies = bodies; results = results; taken = new.taken.items; stuck = stuck })
releases_now {B} {K} {O} {old} {new} {was} {stuck} bodies results releases = record {
  tasks = releases.some.0;
  were_taken = releases.some.1;
  could = releases.some.2;
  were = ap (λ (w : WaitState). record { past = w.past; bodies = bodies; results = results; taken = w.taken.items; stuck = stuck }) releases.some.3;
  rests = releases.rests;
}
