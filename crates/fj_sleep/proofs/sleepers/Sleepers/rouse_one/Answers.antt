use Rattle.std.proofs.Common.{inl, inr, refl}
use Rattle.std.proofs.lemmas.Bool.{or_parts}
use Rattle.fj_sleep.specs.Places.{is_asleep}
use Rattle.fj_sleep.specs.Sleeping.{NobodyIs}
use Rattle.fj_sleep.proofs.Nobody.{noted_set}
use Rattle.fj_sleep.proofs.sleepers.Sleepers.rouse_one.Goals as goal

pub invariant_of-self : goal.invariant_of-self
invariant_of-self g c = noted_set _ _ _ _ _ _ _ _ _ _ _ c.self.invariant (λ none. (none, refl)) (λ none. (none, refl)) (λ none. (none, refl)) (λ none. absurd cc)

pub invariant_of-self-in-None : goal.invariant_of-self-in-None
invariant_of-self-in-None g c =
    let nobody : NobodyIs is_asleep c.self.inside.places.items = rw (← c.deref.ensures.value) c.in-None.ensures in
    record {
      few = c.self.invariant.few;
      watched = c.self.invariant.watched;
      no_waiting = λ none k d within. (or_parts _ _ (nobody k d within)).1;
      no_resting = λ none k d within. (or_parts _ _ (nobody k d within)).0;
      no_due = c.self.invariant.no_due;
    }

pub returns-in-Some : goal.returns-in-Some
returns-in-Some g c = rw (← c.self.view_is) (inl (c.in-Some.place, rw (← c.deref.ensures.value) c.in-Some.ensures, refl))

pub returns-in-None : goal.returns-in-None
returns-in-None g c = rw (← c.self.view_is) (inr (rw (← c.deref.ensures.value) c.in-None.ensures, refl))
