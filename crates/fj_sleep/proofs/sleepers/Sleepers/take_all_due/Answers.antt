use Rattle.std.proofs.Common.{◌≡◌, ◌++◌, length, map, take, drop, arith, refl, sym, ap, ◌∙◌}
use Rattle.std.proofs.lemmas.List.{length-map, take_at}
use Rattle.fj_sleep.specs.Places.{is_due, taken}
use Rattle.fj_sleep.specs.Sleeping.{NobodyIs}
use Rattle.fj_sleep.proofs.Nobody.{nobody_due_taken, nobody_rests_taken, nobody_waits_taken}
use Rattle.fj_sleep.proofs.sleepers.Sleepers.take_all_due.Goals as goal

pub invariant_of-self : goal.invariant_of-self
invariant_of-self g c =
    let old = c.self.inside.places in
    let new = c.take_each_due-chosen.new.places in
    let is : new ≡ map taken old.items = rw (← c.deref_mut.ensures.value) c.take_each_due-chosen.ensures.woken in
    let long : length new ≡ length old.items = ap length is ∙ length-map old.items taken in
    let whole : take old.len (new ++ drop (length new) old.items) ≡ new = take_at new (drop (length new) old.items) old.len (omega (arith, long, old.ok.0)) in
    rw whole record {
      few = omega (arith, long, c.self.invariant.few);
      watched = λ none. rw is (nobody_rests_taken old.items (c.self.invariant.watched none));
      no_waiting = λ none. rw is (nobody_waits_taken old.items (c.self.invariant.no_waiting none));
      no_resting = λ none. rw is (nobody_rests_taken old.items (c.self.invariant.no_resting none));
      no_due = λ none. rw is (nobody_due_taken old.items);
    }

pub invariant_of-self-in-None : goal.invariant_of-self-in-None
invariant_of-self-in-None g c =
    let nobody : NobodyIs is_due c.self.inside.places.items = rw (← c.deref.ensures.value) c.in-None.ensures in
    record {
      few = c.self.invariant.few;
      watched = c.self.invariant.watched;
      no_waiting = c.self.invariant.no_waiting;
      no_resting = c.self.invariant.no_resting;
      no_due = λ none. nobody;
    }

pub returns-in-Some-clause-none : goal.returns-in-Some-clause-none
returns-in-Some-clause-none g c =
    rw (← c.self.view_is) (rw (← c.deref.ensures.value) (λ no. absurd cc, λ nobody. sym c.in-Some.ensures.1 ∙ nobody _ _ c.in-Some.ensures.0))

pub returns-in-Some-clause-due : goal.returns-in-Some-clause-due
returns-in-Some-clause-due g c = rw (← c.self.view_is) (rw (← c.deref_mut.ensures.value) c.take_each_due-chosen.ensures.due)

pub returns-in-None-clause-none : goal.returns-in-None-clause-none
returns-in-None-clause-none g c = rw (← c.self.view_is) (rw (← c.deref.ensures.value) (λ no. c.in-None.ensures, λ nobody. refl))
