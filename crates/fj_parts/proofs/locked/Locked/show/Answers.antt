use Rattle.std.proofs.Common.{sym, ◌∙◌, subst}
use Rattle.fj_guarded.specs.Continuing.{ContinuesAll}
use Rattle.fj_guarded.proofs.GoesOn.{all_with}
use Rattle.fj_parts.proofs.locked.Locked.show.Goals as goal

pub invariant_of-self : goal.invariant_of-self
invariant_of-self g c = record {
  ends = c.self.invariant.ends;
  log = subst (λ log. ContinuesAll log c.self.inside.guarded) (sym (c.learn.ensures.stays ∙ c.append.ensures)) (all_with _ _ c.self.invariant.log);
}
