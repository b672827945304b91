use Rattle.fj_rules.specs.declared.step.Step.TheVariants.{Add}
use Rattle.fj_bodies.proofs.Calms.{add_replies, makes_reply}
use Rattle.fj_bodies.proofs.store.Store.add.Goals as goal

pub unreachable-requires : goal.unreachable-requires
unreachable-requires g c = add_replies c.args.self.now.past c.args.w c.args.c c.args.n c.ask.result (makes_reply c.args.self.now (Add c.args.w c.args.c c.args.n) c.ask.result _ c.ask.ensures) c.in_default.not-Count c.in_default.not-Refused
