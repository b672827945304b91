use Rattle.std.proofs.Common.{arith}
use Rattle.fj_lazy.proofs.Joins.{one_fewer}
use Rattle.fj_lazy.proofs.lazy.Lazy.step_up.Goals as goal

pub returns-in-Join-clause-asks : goal.returns-in-Join-clause-asks
returns-in-Join-clause-asks g c =
    let fewer = one_fewer _ _ _ c.in-Join.ensures.joins in
    record { rightly = tt; nearer = omega (arith, fewer); as_job = tt; joins = c.in-Join.ensures.joins }

pub returns-in-Skip-clause-asks : goal.returns-in-Skip-clause-asks
returns-in-Skip-clause-asks g c =
    let fewer = one_fewer _ _ _ c.in-Skip.ensures.joins in
    record { rightly = tt; nearer = omega (arith, fewer); as_job = tt; joins = c.in-Skip.ensures.joins }
