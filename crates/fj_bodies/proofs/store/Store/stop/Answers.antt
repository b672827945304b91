use Rattle.fj_rules.specs.declared.step.Step.TheVariants.{Stop}
use Rattle.fj_bodies.proofs.Shutting.{stop_done, shuts, shut_sticks}
use Rattle.fj_bodies.proofs.store.Store.stop.Goals as goal

pub returns-in_default : goal.returns-in_default
returns-in_default g c = shuts c.args.self.now Stop c.ask.result _ (stop_done c.args.self.now.past) c.in_default.not-Refused c.ask.ensures

pub returns-in-Refused : goal.returns-in-Refused
returns-in-Refused g c = shut_sticks c.args.self.now Stop c.in-Refused.field-0 c.ask.new.self _ (stop_done c.args.self.now.past) c.in-Refused.ensures c.self.view_is
