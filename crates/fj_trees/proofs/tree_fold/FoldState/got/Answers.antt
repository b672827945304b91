use Rattle.std.proofs.Common.{ℕ, List}
use Rattle.fj_body.specs.declared.body.Ask.{Ask}
use Rattle.fj_body.specs.declared.body.Heard.TheVariants.{Got}
use Rattle.fj_trees.specs.declared.node.Node.{Node}
use Rattle.fj_trees.specs.declared.fold_progress.FoldStage.{FoldStage}
use Rattle.fj_trees.specs.declared.fold_progress.FoldStage.TheVariants.{New, Adding, Forking, Ended, Taking}
use Rattle.fj_trees.specs.declared.fold_progress.FoldProgress.{FoldProgress}
use Rattle.fj_trees.specs.Stages.{AsksAt, GoesOnWithout}
use Rattle.fj_trees.proofs.tree_fold.FoldState.got.Goals as goal

-- a result that is not taken is unexpected at each stage
module _ {B K O : Type 0} (nodes : List Node) (course_of : B → FoldProgress) (tasks_of : B → List ℕ) (key : K) (out : O) (old new : FoldProgress) (tasks : List ℕ) (ask : Ask B K O) where
  got_unused : (stage : FoldStage) → GoesOnWithout nodes stage old tasks new ask → AsksAt nodes course_of tasks_of stage old tasks (Got key out) new ask
  got_unused New without = without
  got_unused (Adding me) without = without
  got_unused (Forking me) without = without
  got_unused Ended without = without
  got_unused Taking without = without

pub returns-in_default-clause-next : goal.returns-in_default-clause-next
returns-in_default-clause-next g c = got_unused g.F.NamedTree.nodes (λ b. b.inside.value.course) (λ b. b.inside.value.forked.items) c.args.key c.args.value _ _ _ _ c.args.self.now.course.stage c.go_on_without.ensures.without
