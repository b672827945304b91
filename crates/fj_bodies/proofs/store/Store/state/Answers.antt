use Rattle.fj_rules.proofs.Steps.RunsGrow.{history_fits}
use Rattle.fj_rules.proofs.Steps.Answered.{state_same, state_replies}
use Rattle.fj_bodies.proofs.store.Store.state.Goals as goal

pub invariant_of-self : goal.invariant_of-self
invariant_of-self g c = rw (state_same c.self.inside.machine c.step.new.self c.args.t c.step.ensures.step.1) c.self.invariant

pub unreachable-requires : goal.unreachable-requires
unreachable-requires g c = state_replies c.self.inside.machine c.args.t c.step.result (history_fits c.self.inside.machine c.self.invariant.stored.run) c.step.ensures.step.0 c.in_default.not-State c.in_default.not-Refused
