use Rattle.std.proofs.Common.{arith}
use Rattle.fj_recursive.proofs.recursive.RecursiveState.finish.Goals as goal

pub returns-in-Err-clause-asks : goal.returns-in-Err-clause-asks
returns-in-Err-clause-asks g c = record { rightly = tt; nearer = omega (arith, c.in-Err.ensures.fewer); as_job = tt; joins = c.in-Err.ensures.last }
