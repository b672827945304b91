use Rattle.std.proofs.Common.{[], ◌∷◌, refl, sym, ◌∙◌}
use Rattle.fj_rules.specs.declared.event.Event.TheVariants.{Acc}
use Rattle.fj_rules.specs.declared.owner.Owner.TheVariants.{Work}
use Rattle.fj_rules.specs.declared.step.Step.TheVariants.{Fork}
use Rattle.fj_rules.proofs.Steps.Answered.{fork_replies, fork_made}
use Rattle.fj_body.proofs.Stored.{accept_stored, accept_free, accept_room, none_released_acc}
use Rattle.fj_bodies.proofs.NoneLost.{step_results}
use Rattle.fj_bodies.proofs.DueTasks.{still_rests}
use Rattle.fj_bodies.proofs.store.Store.fork.Goals as goal

pub put-requires-clause-free : goal.put-requires-clause-free
put-requires-clause-free g c =
    let past = c.self.inside.machine in
    let asked = Fork c.args.w c.args.kind.now in
    accept_free past asked (Acc c.in-Task.t (Work c.args.w) c.args.kind.now) c.in-Task.t _ _ _ c.self.invariant.stored (fork_made past c.args.w c.args.kind.now c.in-Task.t (sym c.step.ensures.step.0 ∙ c.in-Task.is)) refl

pub put-requires-clause-room : goal.put-requires-clause-room
put-requires-clause-room g c =
    let past = c.self.inside.machine in
    let asked = Fork c.args.w c.args.kind.now in
    accept_room past asked (Acc c.in-Task.t (Work c.args.w) c.args.kind.now) c.in-Task.t c.self.inside.bodies.room _ _ _ c.self.invariant.stored (fork_made past c.args.w c.args.kind.now c.in-Task.t (sym c.step.ensures.step.0 ∙ c.in-Task.is)) refl (none_released_acc c.in-Task.t (Work c.args.w) c.args.kind.now) c.self.invariant.room.bodies

pub invariant_of-self : goal.invariant_of-self
invariant_of-self g c =
    let past = c.self.inside.machine in
    let asked = Fork c.args.w c.args.kind.now in
    record {
      stored = accept_stored past c.step.new.self asked c.in-Task.t (Work c.args.w) c.args.kind.now _ _ c.args.body _ _ c.self.invariant.stored c.step.ensures.step.1 (fork_made past c.args.w c.args.kind.now c.in-Task.t (sym c.step.ensures.step.0 ∙ c.in-Task.is)) c.put.ensures.entries;
      complete = step_results past c.step.new.self asked _ _ c.self.invariant.stored.run refl refl c.step.ensures.step.1 c.self.invariant.complete;
      room = rw (c.put.ensures.room, c.step.ensures.step.1) c.self.invariant.room;
      rests = λ free. still_rests past c.step.new.self asked (Acc c.in-Task.t (Work c.args.w) c.args.kind.now ∷ []) _ _ _ c.self.invariant.stored c.step.ensures.step.1
          (fork_made past c.args.w c.args.kind.now c.in-Task.t (sym c.step.ensures.step.0 ∙ c.in-Task.is)) refl (c.self.invariant.rests free);
    }

pub unreachable-requires : goal.unreachable-requires
unreachable-requires g c = fork_replies c.self.inside.machine c.args.w c.args.kind.now c.step.result c.step.ensures.step.0 c.in_default.not-Task c.in_default.not-Refused
