use Rattle.std.proofs.Common.{[], ◌∷◌, ◌++◌, append_assoc, ap, sym, ◌∙◌, subst}
use Rattle.fj_guarded.specs.Continuing.{ContinuesAll}
use Rattle.fj_guarded.proofs.GoesOn.{all_after, all_with, quiet_on}
use Rattle.fj_guarded.proofs.Keeping.{quiet_keeps}
use Rattle.fj_parts.proofs.Holdings.{kept_still}
use Rattle.fj_parts.proofs.locked.Locked.tell_quiet.Goals as goal

pub append-requires-2 : goal.append-requires-2
append-requires-2 g c = record {
  follows = subst (λ log. ContinuesAll log c.is_quiescent-quiet.new.self) (sym c.append.ensures)
      (all_after _ _ _ c.self.invariant.log (quiet_on g.B.Body.rooted_as _ _ c.is_quiescent-quiet.result c.is_quiescent-quiet.ensures));
}

pub invariant_of-self : goal.invariant_of-self
invariant_of-self g c = record {
  ends = kept_still g.N.Naming.hands c.self.inside.guarded.store.past c.is_quiescent-quiet.new.self.store.past c.self.inside.ends.items c.self.invariant.ends
      (quiet_keeps g.B.Body.rooted_as _ _ c.is_quiescent-quiet.result c.is_quiescent-quiet.ensures);
  log = subst (λ log. ContinuesAll log c.is_quiescent-quiet.new.self) (sym (c.learn.ensures.stays ∙ c.append-2.ensures))
      (all_with _ _ (subst (λ log. ContinuesAll log c.is_quiescent-quiet.new.self) (sym c.append.ensures)
      (all_after _ _ _ c.self.invariant.log (quiet_on g.B.Body.rooted_as _ _ c.is_quiescent-quiet.result c.is_quiescent-quiet.ensures))));
}

pub returns-clause-quiet : goal.returns-clause-quiet
returns-clause-quiet g c = rw (← c.self.view_is) c.is_quiescent-quiet.ensures

pub returns-clause-goes_on : goal.returns-clause-goes_on
returns-clause-goes_on g c = c.learn.ensures.goes_on

pub returns-clause-seen : goal.returns-clause-seen
returns-clause-seen g c =
    let log = c.self.inside.keeper in
    let new = c.is_quiescent-quiet.new.self in (
      log,
      c.self.inside.guarded,
      new,
      c.learn.ensures.whole ∙ c.append-2.ensures ∙ ap (λ all. all ++ new ∷ []) c.append.ensures ∙ append_assoc log (c.self.inside.guarded ∷ []) (new ∷ []),
      c.is_quiescent-quiet.ensures,
    )
