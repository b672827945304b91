use Rattle.fj_rules.specs.declared.step.Step.TheVariants.{Shutdown}
use Rattle.fj_bodies.proofs.Shutting.{shutdown_done, shuts, shut_sticks}
use Rattle.fj_bodies.proofs.store.Store.shutdown.Goals as goal

pub returns-in_default : goal.returns-in_default
returns-in_default g c = shuts c.args.self.now Shutdown c.ask.result _ (shutdown_done c.args.self.now.past) c.in_default.not-Refused c.ask.ensures

pub returns-in-Refused : goal.returns-in-Refused
returns-in-Refused g c = shut_sticks c.args.self.now Shutdown c.in-Refused.field-0 c.ask.new.self _ (shutdown_done c.args.self.now.past) c.in-Refused.ensures c.self.view_is
