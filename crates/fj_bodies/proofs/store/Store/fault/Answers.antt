use Rattle.fj_rules.specs.declared.step.Step.TheVariants.{Fault}
use Rattle.fj_bodies.proofs.Calms.{fault_replies, makes_reply}
use Rattle.fj_bodies.proofs.store.Store.fault.Goals as goal

pub unreachable-requires : goal.unreachable-requires
unreachable-requires g c = fault_replies c.args.self.now.past c.args.t c.args.code c.ask.result (makes_reply c.args.self.now (Fault c.args.t c.args.code) c.ask.result _ c.ask.ensures) c.in_default.not-Yes c.in_default.not-No c.in_default.not-Refused
