use Rattle.std.proofs.Common.{◌≡◌, ◌++◌, length, map, take, drop, arith, ap, ◌∙◌}
use Rattle.std.proofs.lemmas.List.{length-map, take_at}
use Rattle.fj_sleep.specs.Places.{roused_if}
use Rattle.fj_sleep.specs.Waking.{includes}
use Rattle.fj_sleep.proofs.Nobody.{nobody_rests_roused}
use Rattle.fj_sleep.proofs.sleepers.Sleepers.rouse.Goals as goal

pub invariant_of-self : goal.invariant_of-self
invariant_of-self g c =
    let old = c.self.inside.places in
    let new = c.rouse_each-kinds.new.places in
    let test = includes c.args.whom in
    let is : new ≡ map (roused_if test) old.items = rw (← c.deref_mut.ensures.value) c.rouse_each-kinds.ensures.places in
    let long : length new ≡ length old.items = ap length is ∙ length-map old.items (roused_if test) in
    let whole : take old.len (new ++ drop (length new) old.items) ≡ new = take_at new (drop (length new) old.items) old.len (omega (arith, long, old.ok.0)) in
    rw whole record {
      few = omega (arith, long, c.self.invariant.few);
      watched = λ none. rw is (nobody_rests_roused test old.items (c.self.invariant.watched none));
      no_waiting = c.rouse_each-kinds.ensures.waiting;
      no_resting = c.rouse_each-kinds.ensures.resting;
      no_due = c.rouse_each-kinds.ensures.due;
    }
