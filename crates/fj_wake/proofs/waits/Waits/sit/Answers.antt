use Rattle.std.proofs.Common.{arith}
use Rattle.fj_wake.proofs.Fewer.{seated}
use Rattle.fj_wake.proofs.waits.Waits.sit.Goals as goal

pub returns-in-Some : goal.returns-in-Some
returns-in-Some c =
    seated c.args.self.now c.wait.new.self c.in-Some.place c.args.ticket c.max-self.result c.wait.ensures (omega (arith, c.max-self.ensures)) (omega (arith, c.max-self.ensures, c.saturating_add.ensures, c.in-Some.ensures.few))
