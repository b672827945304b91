use Rattle.std.proofs.Common.{rules}
use Rattle.fj_guarded.proofs.GoesOn.{all_on, parts_on}
use Rattle.fj_parts.proofs.locked.Locked.take_parts.Goals as goal

pub invariant_of-self : goal.invariant_of-self
invariant_of-self g c = record {
  ends = search rules;
  log = all_on _ _ _ c.self.invariant.log (parts_on _ _ c.take_parts.ensures.handed);
}
