use Rattle.std.proofs.Common.{[], ◌∷◌, ◌++◌, append_assoc, ap, sym, ◌∙◌, subst}
use Rattle.fj_guarded.specs.Continuing.{ContinuesAll}
use Rattle.fj_guarded.proofs.GoesOn.{all_after, all_with, any_on}
use Rattle.fj_guarded.proofs.Keeping.{any_keeps}
use Rattle.fj_parts.proofs.Holdings.{kept_still}
use Rattle.fj_parts.proofs.locked.Locked.tell_any.Goals as goal

pub append-requires-2 : goal.append-requires-2
append-requires-2 g c = record {
  follows = subst (λ log. ContinuesAll log c.collect_any-told.new.self) (sym c.append.ensures)
      (all_after _ _ _ c.self.invariant.log (any_on c.args.tickets.now _ _ c.collect_any-told.result c.collect_any-told.ensures));
}

pub invariant_of-self : goal.invariant_of-self
invariant_of-self g c = record {
  ends = kept_still g.N.Naming.hands c.self.inside.guarded.store.past c.collect_any-told.new.self.store.past c.self.inside.ends.items c.self.invariant.ends
      (any_keeps c.args.tickets.now _ _ c.collect_any-told.result c.collect_any-told.ensures);
  log = subst (λ log. ContinuesAll log c.collect_any-told.new.self) (sym (c.learn.ensures.stays ∙ c.append-2.ensures))
      (all_with _ _ (subst (λ log. ContinuesAll log c.collect_any-told.new.self) (sym c.append.ensures)
      (all_after _ _ _ c.self.invariant.log (any_on c.args.tickets.now _ _ c.collect_any-told.result c.collect_any-told.ensures))));
}

pub returns-clause-collects : goal.returns-clause-collects
returns-clause-collects g c = rw (← c.self.view_is) c.collect_any-told.ensures

pub returns-clause-goes_on : goal.returns-clause-goes_on
returns-clause-goes_on g c = c.learn.ensures.goes_on

pub returns-clause-seen : goal.returns-clause-seen
returns-clause-seen g c =
    let log = c.self.inside.keeper in
    let new = c.collect_any-told.new.self in (
      log,
      c.self.inside.guarded,
      new,
      c.learn.ensures.whole ∙ c.append-2.ensures ∙ ap (λ all. all ++ new ∷ []) c.append.ensures ∙ append_assoc log (c.self.inside.guarded ∷ []) (new ∷ []),
      c.collect_any-told.ensures,
    )
