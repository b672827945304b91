use Rattle.std.proofs.Common.{sym, subst}
use Rattle.fj_guarded.specs.Continuing.{ContinuesAll}
use Rattle.fj_guarded.proofs.GoesOn.{all_with}
use Rattle.fj_parts.proofs.locked.Locked.stand_still.Goals as goal

pub returns-clause-ends : goal.returns-clause-ends
returns-clause-ends g c = record {
  now = (c.self.inside.keeper, c.append.ensures);
  all = subst (λ log. ContinuesAll log c.self.inside.guarded) (sym c.append.ensures) (all_with _ _ c.self.invariant.log);
}
