use Rattle.std.proofs.Common.{inl, inr}
use Rattle.fj_c.proofs.WholeText.{whole_fault, whole_history}
use Rattle.fj_c.proofs.checks.fj_c_check.Goals as goal

pub returns-in-Ok : goal.returns-in-Ok
returns-in-Ok c = inl (c.in-Ok.events, c.new.ensures, whole_history _ _ _ _ c.new-rest.ensures.rest c.in-Ok.ensures.ok)

pub returns : goal.returns
returns c = inr (c.in-Err.fault, c.refused.ensures, whole_fault _ _ _ _ c.new-rest.ensures.rest c.in-Err.ensures.err)
