use Rattle.fj_checker.proofs.Remembering.{nothing_known}
use Rattle.fj_checker.proofs.checker.Checker.new.Goals as goal

pub invariant_of-result : goal.invariant_of-result
invariant_of-result c = rw (c.in_ok-new.ensures, c.new-2.ensures.items) nothing_known
