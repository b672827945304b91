use Rattle.std.proofs.Common.{◌∙◌, ap, sym}
use Rattle.fj_lazy.specs.PartsAside.{whole}
use Rattle.fj_lazy.proofs.lazy.Lazy.share.Goals as goal

pub fork-requires-clause-total : goal.fork-requires-clause-total
fork-requires-clause-total g c = c.in-Some-take_largest.ensures.some _ ∙ c.requires.total

pub step_up-requires-in-None : goal.step_up-requires-in-None
step_up-requires-in-None g c =
    c.in-None.ensures.none _
    ∙ ap (whole g.J.Divide.key_of g.J.Divide.value g.J.Divide.combined c.args.self.now.parts.outer.items c.args.self.now.parts.inner.items) (c.leaf-in-None.ensures ∙ sym c.requires.leaf)
    ∙ c.requires.total
