use Rattle.std.proofs.Common.{◌∙◌, ap, sym, refl, arith}
use Rattle.fj_lazy.specs.PartsAside.{around, beside, forked_in, outside}
use Rattle.fj_lazy.proofs.Around.{branches_some}
use Rattle.fj_lazy.proofs.Asking.{ok_map}
use Rattle.fj_lazy.proofs.lazy.Lazy.compute_on.Goals as goal

pub share-requires-clause-total : goal.share-requires-clause-total
share-requires-clause-total g c =
    ap (λ l. around (outside g.J.Divide.value g.J.Divide.combined) l (around (beside g.J.Divide.key_of g.J.Divide.value g.J.Divide.combined) c.put_in.new.self.inner.items (g.J.Divide.value (g.J.Divide.key_of c.in-Leaf.leaf)))) c.put_in.ensures.outer
    ∙ ap (around (outside g.J.Divide.value g.J.Divide.combined) c.args.self.now.parts.outer.items) (c.in-Ok-put_in.ensures.value _ ∙ ap (around (beside g.J.Divide.key_of g.J.Divide.value g.J.Divide.combined) c.args.self.now.parts.inner.items) (rw c.in-Leaf.is at c.in-Err.ensures.stop).0)
    ∙ c.requires

pub returns-in-Ok-clause-lighter : goal.returns-in-Ok-clause-lighter
returns-in-Ok-clause-lighter g c = ok_map _ _ c.step_up.result c.step_up.ensures.lighter (λ j le. omega (arith, le, branches_some (g.J.Divide.size c.args.job)))

pub returns-in-Deep-clause-next : goal.returns-in-Deep-clause-next
returns-in-Deep-clause-next g c = record {
  gives =
      ap (λ l. around (outside g.J.Divide.value g.J.Divide.combined) l (around (beside g.J.Divide.key_of g.J.Divide.value g.J.Divide.combined) c.put_in.new.self.inner.items (g.J.Divide.value (g.J.Divide.key_of c.in-Deep.job)))) c.put_in.ensures.outer
      ∙ ap (around (outside g.J.Divide.value g.J.Divide.combined) c.args.self.now.parts.outer.items) (c.in-Ok-put_in.ensures.value _ ∙ ap (around (beside g.J.Divide.key_of g.J.Divide.value g.J.Divide.combined) c.args.self.now.parts.inner.items) (rw c.in-Deep.is at c.in-Err.ensures.stop))
      ∙ c.requires;
  same_tasks = ap forked_in (sym c.put_in.ensures.outer);
  same_forks = refl;
}

pub share-requires-clause-leaf : goal.share-requires-clause-leaf
share-requires-clause-leaf g c = (rw c.in-Leaf.is at c.in-Err.ensures.stop).1
