use Rattle.std.proofs.Common.{◌∙◌, ap, sym}
use Rattle.fj_jobs.proofs.Finals.{final_left}
use Rattle.fj_jobs.proofs.divide.+compute.Goals as goal

pub returns-then-is_final : goal.returns-then-is_final
returns-then-is_final g t c =
    final_left g.J.Divide.combined _ (g.J.Divide.value (g.J.Divide.key_of c.in-Ok.right)) _
    (c.in-Ok.ensures.halves ∙ ap (λ x. g.J.Divide.combined x (g.J.Divide.value (g.J.Divide.key_of c.in-Ok.right))) (sym c.compute-left.ensures))
    (c.is_final.ensures c.if-is_final.true)
