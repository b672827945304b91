use Rattle.ex_build.specs.Asks.{own_task}
use Rattle.ex_build.proofs.make.MakeBody.turn.Goals as goal

pub returns-in-Forking-Hook-clause-own : goal.returns-in-Forking-Hook-clause-own
returns-in-Forking-Hook-clause-own c = c.take.ensures.own (own_task c.args.self.now.course c.args.heard)

pub returns-in-Ok-push-clause-own : goal.returns-in-Ok-push-clause-own
returns-in-Ok-push-clause-own c = c.take-in-Ok-push.ensures.own (own_task c.args.self.now.course c.args.heard)
