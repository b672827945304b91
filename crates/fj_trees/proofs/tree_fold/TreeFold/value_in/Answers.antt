use Rattle.std.proofs.Common.{◌≡◌, ◌∙◌, ap}
use Rattle.std.proofs.lemmas.Bool.{eqb-true}
use Rattle.std.proofs.lemmas.Result.{IfOk-weaker}
use Rattle.std.proofs.Math.Logic.{∥∥₁_elim}
use Rattle.std.specs.Coded.{Coded-set, coded_ℕ}
use Rattle.fj_trees.specs.TreeValues.{node_value}
use Rattle.fj_trees.proofs.tree_fold.TreeFold.value_in.Goals as goal

pub returns-clause-ok : goal.returns-clause-ok
returns-clause-ok g c =
    IfOk-weaker c.result_under.result _ (λ value. value ≡ node_value g.F.NamedTree.nodes c.args.number)
    (λ value is. ∥∥₁_elim is.right_for (Coded-set coded_ℕ _ _) (λ e. e ∙ ap (λ k. node_value g.F.NamedTree.nodes k) (eqb-true is.kept c.args.number is.same))) c.result_under.ensures.right
