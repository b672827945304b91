use Rattle.std.proofs.Common.{◌∙◌, sym}
use Rattle.fj_lazy.proofs.lazy.turns.half_of.Goals as goal

pub returns-then-eq-clause-value : goal.returns-then-eq-clause-value
returns-then-eq-clause-value g c = rw c.key.ensures at (g.met.J.Divide.same_value c.key.result c.args.key (sym c.eq.ensures ∙ c.if-eq.true))
