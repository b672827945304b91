use Rattle.std.proofs.Common.{◌∙◌, ap, sym}
use Rattle.fj_lazy.specs.PartsAside.{around, beside, outside}
use Rattle.fj_lazy.proofs.lazy.Lazy.keep.Goals as goal

pub step_up-requires : goal.step_up-requires
step_up-requires g c =
    ap (λ l. around (outside g.J.Divide.value g.J.Divide.combined) l (around (beside g.J.Divide.key_of g.J.Divide.value g.J.Divide.combined) c.put_back.new.self.inner.items c.leaf.result)) c.put_back.ensures.outer
    ∙ ap (around (outside g.J.Divide.value g.J.Divide.combined) c.args.self.now.parts.outer.items)
    (c.put_back.ensures.value c.leaf.result ∙ ap (λ v. g.J.Divide.combined (around (beside g.J.Divide.key_of g.J.Divide.value g.J.Divide.combined) c.args.self.now.parts.inner.items v) (g.J.Divide.value (g.J.Divide.key_of c.args.half))) (c.leaf.ensures ∙ sym c.requires.leaf))
    ∙ c.requires.total
