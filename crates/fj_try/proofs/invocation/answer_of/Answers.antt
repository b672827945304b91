use Rattle.std.proofs.Common.{◌∙◌, sym}
use Rattle.std.proofs.Math.Logic.{∥∥₁_map}
use Rattle.fj_try.proofs.invocation.answer_of.Goals as goal

pub returns-then-eq-clause-ok : goal.returns-then-eq-clause-ok
returns-then-eq-clause-ok g c =
    ∥∥₁_map c.in-Ok.ensures (λ given. g.met.J.TryDivide.same_key c.in-Ok.kept_key c.args.key.now c.in-Ok.out (sym c.eq.ensures ∙ c.if-eq.true) given)
