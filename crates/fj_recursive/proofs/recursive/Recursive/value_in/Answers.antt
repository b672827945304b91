use Rattle.std.proofs.Common.{◌≡◌, ◌∙◌}
use Rattle.std.proofs.lemmas.Result.{IfOk-weaker}
use Rattle.std.proofs.Math.Logic.{∥∥₁_elim}
use base.Stored.{Coded-set}
use Rattle.fj_recursive.proofs.recursive.Recursive.value_in.Goals as goal

pub returns-clause-value : goal.returns-clause-value
returns-clause-value g c =
    IfOk-weaker c.result_under.result _ (λ out. out ≡ g.J.Divide.value c.args.key)
    (λ out is. ∥∥₁_elim is.right_for (Coded-set g.row.J-Out.coded _ _) (λ e. e ∙ g.met.J.Divide.same_value is.kept c.args.key is.same)) c.result_under.ensures.right
