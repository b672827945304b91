use Rattle.std.proofs.Common.{refl}
use Rattle.fj_bodies.proofs.Calms.{swept_stored, refused_steps, made_by}
use Rattle.fj_bodies.proofs.NoneLost.{calm_results}
use Rattle.fj_bodies.proofs.DueTasks.{calm_due}
use Rattle.fj_bodies.proofs.Waits.{holds_now, releases_now, waits_on}
use Rattle.fj_bodies.proofs.store.Store.ask.Goals as goal

pub make-requires : goal.make-requires
make-requires g c = c.self.invariant.stored.run

pub invariant_of-self : goal.invariant_of-self
invariant_of-self g c =
    let past = c.self.inside.machine in
    record {
      stored = swept_stored past c.make.new.machine c.args.asked.now _ _ _ _ c.self.invariant.stored c.requires c.make.ensures.step.1 c.make.ensures.bodies;
      complete = calm_results past c.make.new.machine c.args.asked.now _ _ c.self.invariant.stored.run c.requires c.make.ensures.step.1 c.self.invariant.complete;
      room = rw (c.make.ensures.room, c.make.ensures.step.1) c.self.invariant.room;
      rests = λ free. rw (c.make.ensures.refused _ c.in-Refused.is).0 (c.self.invariant.rests free);
    }

pub release_due-requires : goal.release_due-requires
release_due-requires g c =
    let past = c.self.inside.machine in
    record {
      waiting = waits_on _ c.self.invariant.stored c.make.ensures.step.1;
      due = λ free. rw c.due_after-due.ensures (calm_due past c.make.new.machine c.args.asked.now _ _ _ c.self.invariant.stored c.requires c.make.ensures.step.1 (c.self.invariant.rests free));
    }

pub invariant_of-self-in_default : goal.invariant_of-self-in_default
invariant_of-self-in_default g c =
    let past = c.self.inside.machine in
    holds_now c.make.new.bodies c.self.inside.results (swept_stored past c.make.new.machine c.args.asked.now _ _ _ _ c.self.invariant.stored c.requires c.make.ensures.step.1 c.make.ensures.bodies)
    (calm_results past c.make.new.machine c.args.asked.now _ _ c.self.invariant.stored.run c.requires c.make.ensures.step.1 c.self.invariant.complete)
    (rw (c.make.ensures.room, c.make.ensures.step.1) c.self.invariant.room) c.release_due.ensures.waiting c.release_due.ensures.releases

pub returns-in-Refused : goal.returns-in-Refused
returns-in-Refused g c =
    let same = c.make.ensures.refused _ c.in-Refused.is in
    rw (← c.self.view_is, same.0, same.1) (refused_steps c.self.inside.machine c.make.new.machine c.args.asked.now c.make.result _ c.make.ensures.step c.in-Refused.is same.0, refl)

pub returns-in_default : goal.returns-in_default
returns-in_default g c =
    rw (← c.self.view_is)
    (made_by _ (record { past = c.make.new.machine; bodies = c.make.new.bodies; results = c.self.inside.results; taken = c.self.inside.taken.items; stuck = c.self.inside.stuck }) _ c.args.asked.now c.make.result
    c.make.ensures.step c.make.ensures.bodies refl (releases_now c.make.new.bodies c.self.inside.results c.release_due.ensures.releases) c.in_default.not-Refused)
