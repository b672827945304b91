-- What a call leaves of the store: nothing is submitted, closed, stopped or sealed, and a stuck store stays stuck.
use Rattle.std.proofs.Common.{ℕ, ◌≡◌, Bool, true, false, inl, inr, List, [], ◌++◌, map, Option, Some, None, refl, ap, sym, ◌∙◌, subst}
use Rattle.std.specs.Prelude.{Result, Ok, Err}
use Rattle.std.proofs.lemmas.List.{append_assoc, append-nil}
use Rattle.fj_rules.specs.declared.event.Event.{Event}
use Rattle.fj_rules.specs.declared.event.Event.TheVariants.{Rel}
use Rattle.fj_rules.specs.declared.refusal.Refusal.{Refusal}
use Rattle.fj_rules.specs.declared.said.Said.{Said}
use Rattle.fj_rules.specs.declared.step.Step.{Step}
use Rattle.fj_rules.specs.declared.step.Step.TheVariants as ask
use Rattle.fj_rules.specs.Answers.{answer}
use Rattle.fj_rules.specs.Pasts.{Past}
use Rattle.fj_rules.specs.Runs.{Steps}
use Rattle.fj_slots.specs.Hands.{HandState, with_next_word}
use Rattle.fj_body.specs.declared.body.Told.{Told}
use Rattle.fj_body.specs.declared.body.Told.TheVariants as told
use Rattle.fj_body.specs.declared.outcomes.Outcome.{Outcome}
use Rattle.fj_body.specs.Stores.{StoreState, StaysInside}
use Rattle.fj_body.specs.Releases.{Releases, Rests}
use Rattle.fj_body.specs.Choosing.{Polls, HandsOut, Skips, Moves}
use Rattle.fj_body.specs.Results.{Collects}
use Rattle.fj_rules.specs.Inside.{IsInside, is_outside_step}
use Rattle.fj_rules.proofs.Steps.Inside.{step_inside, releases_inside, same_inside, then_inside}

module _ {B K O : Type 0} where
  -- nothing has happened at the machine
  pub same_past_stays : (old new : StoreState B K O) → new.past ≡ old.past → (new.stuck ≡ false → old.stuck ≡ false) → StaysInside old new
  same_past_stays old new same stuck = record {
    past = subst (IsInside old.past) (sym same) (same_inside old.past);
    grows = ([], ap (λ (p : Past). p.events) same ∙ sym (append-nil old.past.events));
    stuck = stuck;
  }

  pub same_stays : (old new : StoreState B K O) → new ≡ old → StaysInside old new
  same_stays old new same = same_past_stays old new (ap (λ (s : StoreState B K O). s.past) same) (λ is. ap (λ (s : StoreState B K O). s.stuck) (sym same) ∙ is)

  pub then_stays : (a b c : StoreState B K O) → StaysInside a b → StaysInside b c → StaysInside a c
  then_stays a b c ab bc = record {
    past = then_inside a.past b.past c.past ab.past bc.past;
    grows = (ab.grows.0 ++ bc.grows.0, bc.grows.1 ∙ ap (λ (h : List Event). h ++ bc.grows.0) ab.grows.1 ∙ append_assoc a.past.events ab.grows.0 bc.grows.0);
    stuck = λ is. ab.stuck (bc.stuck is);
  }

  rests_stuck : (stuck : Bool) (s : StoreState B K O) → Rests stuck s → s.stuck ≡ false → stuck ≡ false
  rests_stuck stuck s (inl rests) is = sym rests.0 ∙ is
  rests_stuck stuck s (inr full) is = absurd (let same : true ≡ false = sym full.0 ∙ is in cc)

  pub releases_stay : (old new : StoreState B K O) → Releases old new → StaysInside old new
  releases_stay old new r =
      record {
        past = subst (IsInside old.past) (sym (ap (λ s. s.past) r.were)) (releases_inside old.past r.tasks);
        grows = (map Rel r.tasks, ap (λ (s : StoreState B K O). s.past.events) r.were);
        stuck = rests_stuck old.stuck new r.rests;
      }

  -- a step of a worker, with nothing stuck by it
  pub step_stays : (old new : StoreState B K O) (asked : Step) (reply : Said) → is_outside_step asked ≡ false → Steps old.past asked reply new.past → new.stuck ≡ old.stuck → StaysInside old new
  step_stays old new asked reply inside step same = record {
    past = step_inside old.past new.past asked reply inside step;
    grows = ((answer old.past asked).1, ap (λ (p : Past). p.events) step.1);
    stuck = λ is. sym same ∙ is;
  }

  -- it gets stuck
  pub sticks_stay : (old new : StoreState B K O) → (old.stuck ≡ false) → new.past ≡ old.past → StaysInside old new
  sticks_stay old new free same = same_past_stays old new same (λ is. free)

  pub hands_out_stays : (old new : StoreState B K O) (hand hand' : HandState B) (asked : Step) (t : ℕ) → is_outside_step asked ≡ false → HandsOut old hand asked t new hand' → StaysInside old new
  hands_out_stays old new hand hand' asked t inside is = step_stays old new asked _ inside is.step (ap (λ s. s.stuck) is.others)

  pub skips_stay : (old new : StoreState B K O) (asked : Step) (t : ℕ) (body : B) → is_outside_step asked ≡ false → Skips old asked t body new → StaysInside old new
  skips_stay old new asked t body inside is = then_stays old is.mid new (step_stays old is.mid asked _ inside is.step (ap (λ s. s.stuck) is.others)) (releases_stay is.mid new is.releases)

  pub moves_stay : (old new : StoreState B K O) (asked : Step) (reply : Said) → is_outside_step asked ≡ false → Moves old asked reply new → StaysInside old new
  moves_stay old new asked reply inside is = step_stays old new asked reply inside is.0 (ap (λ s. s.stuck) is.1)

  -- ---- each call

  pub polls_stay : (old new : StoreState B K O) (hand hand' : HandState B) (answer : Told B K O) → Polls old hand answer new hand' → StaysInside old new
  polls_stay old new hand hand' (told.Run t) is = hands_out_stays old new (with_next_word hand) hand' (ask.Poll hand.worker hand.word) t refl is.1
  polls_stay old new hand hand' (told.Skip t body) is = skips_stay old new (ask.Poll hand.worker hand.word) t body refl is.1
  polls_stay old new hand hand' told.None is = moves_stay old new (ask.Poll hand.worker hand.word) _ refl is.1
  polls_stay old new hand hand' (told.Stuck None) (inl was) = same_stays old new was.0.1
  polls_stay old new hand hand' (told.Stuck None) (inr now) = sticks_stay old new now.0.0 (ap (λ s. s.past) now.0.2)
  polls_stay old new hand hand' (told.Stuck (Some b)) is = absurd is
  polls_stay old new hand hand' (told.Hear heard) is = absurd is
  polls_stay old new hand hand' (told.Hook a b) is = absurd is
  polls_stay old new hand hand' (told.Over b) is = absurd is

  pub collects_stay : (old new : StoreState B K O) (t : ℕ) (answer : Option (Result (Outcome B K O) Refusal)) → Collects old t answer new → StaysInside old new
  collects_stay old new t None is = same_stays old new is.3
  collects_stay old new t (Some (Err r)) is = same_stays old new is.2
  collects_stay old new t (Some (Ok outcome)) is =
      then_stays old is.mid new (same_past_stays old is.mid (ap (λ (s : StoreState B K O). s.past) is.marks.1) (λ free. ap (λ (s : StoreState B K O). s.stuck) (sym is.marks.1) ∙ free)) (releases_stay is.mid new is.releases)
