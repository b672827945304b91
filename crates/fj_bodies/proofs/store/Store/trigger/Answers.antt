use Rattle.std.proofs.Common.{true, None, [], ◌∷◌, refl, sym, ◌∙◌}
use Rattle.fj_rules.specs.declared.event.Event.TheVariants.{Make}
use Rattle.fj_rules.specs.declared.kind.Kind.TheVariants.{Completer}
use Rattle.fj_rules.specs.declared.step.Step.TheVariants.{Trigger}
use Rattle.fj_rules.proofs.Steps.Answered.{trigger_replies, trigger_made}
use Rattle.fj_body.proofs.Stored.{make_stored, accept_free, accept_room, none_released_make}
use Rattle.fj_bodies.proofs.NoneLost.{step_results}
use Rattle.fj_bodies.proofs.DueTasks.{still_rests}
use Rattle.fj_bodies.proofs.store.Store.trigger.Goals as goal

pub put-requires-clause-free : goal.put-requires-clause-free
put-requires-clause-free g c =
    let past = c.self.inside.machine in
    let asked = Trigger c.args.w c.args.count in
    accept_free past asked (Make c.in-Task.t (Completer true c.args.count None)) c.in-Task.t _ _ _ c.self.invariant.stored (trigger_made past c.args.w c.args.count c.in-Task.t (sym c.step.ensures.step.0 ∙ c.in-Task.is)) refl

pub put-requires-clause-room : goal.put-requires-clause-room
put-requires-clause-room g c =
    let past = c.self.inside.machine in
    let asked = Trigger c.args.w c.args.count in
    accept_room past asked (Make c.in-Task.t (Completer true c.args.count None)) c.in-Task.t c.self.inside.bodies.room _ _ _ c.self.invariant.stored (trigger_made past c.args.w c.args.count c.in-Task.t (sym c.step.ensures.step.0 ∙ c.in-Task.is)) refl (none_released_make c.in-Task.t (Completer true c.args.count None)) c.self.invariant.room.bodies

pub invariant_of-self : goal.invariant_of-self
invariant_of-self g c =
    let past = c.self.inside.machine in
    let asked = Trigger c.args.w c.args.count in
    record {
      stored = make_stored past c.step.new.self asked c.in-Task.t (Completer true c.args.count None) _ _ c.args.body _ _ c.self.invariant.stored c.step.ensures.step.1 (trigger_made past c.args.w c.args.count c.in-Task.t (sym c.step.ensures.step.0 ∙ c.in-Task.is)) c.put.ensures.entries;
      complete = step_results past c.step.new.self asked _ _ c.self.invariant.stored.run refl refl c.step.ensures.step.1 c.self.invariant.complete;
      room = rw (c.put.ensures.room, c.step.ensures.step.1) c.self.invariant.room;
      rests = λ free. still_rests past c.step.new.self asked (Make c.in-Task.t (Completer true c.args.count None) ∷ []) _ _ _ c.self.invariant.stored c.step.ensures.step.1
          (trigger_made past c.args.w c.args.count c.in-Task.t (sym c.step.ensures.step.0 ∙ c.in-Task.is)) refl (c.self.invariant.rests free);
    }

pub unreachable-requires : goal.unreachable-requires
unreachable-requires g c = trigger_replies c.self.inside.machine c.args.w c.args.count c.step.result c.step.ensures.step.0 c.in_default.not-Task c.in_default.not-Refused
