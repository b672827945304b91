use Rattle.fj_rules.specs.declared.step.Step.TheVariants.{Cancel}
use Rattle.fj_bodies.proofs.Calms.{cancel_replies, makes_reply}
use Rattle.fj_bodies.proofs.store.Store.cancel.Goals as goal

pub unreachable-requires : goal.unreachable-requires
unreachable-requires g c = cancel_replies c.args.self.now.past c.args.t c.ask.result (makes_reply c.args.self.now (Cancel c.args.t) c.ask.result _ c.ask.ensures) c.in_default.not-Yes c.in_default.not-No c.in_default.not-Refused
