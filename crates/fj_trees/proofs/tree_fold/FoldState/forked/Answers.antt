use Rattle.std.specs.Prelude.{Option, Some, None}
use Rattle.std.proofs.Common.{ℕ, List}
use Rattle.fj_body.specs.declared.body.Ask.{Ask}
use Rattle.fj_body.specs.declared.body.Ask.TheVariants.{Fork}
use Rattle.fj_trees.specs.declared.node.Node.{Node}
use Rattle.fj_trees.specs.declared.fold_progress.FoldStage.{FoldStage}
use Rattle.fj_trees.specs.declared.fold_progress.FoldStage.TheVariants.{Forking}
use Rattle.fj_trees.specs.declared.fold_progress.FoldProgress.{FoldProgress}
use Rattle.fj_trees.specs.Stages.{ForksNext}
use Rattle.fj_trees.proofs.tree_fold.FoldState.forked.Goals as goal

-- whatever the stage is before it forks
module _ {B K O : Type 0} (nodes : List Node) (course_of : B → FoldProgress) (tasks_of : B → List ℕ) (me : ℕ) (stage : FoldStage) (old new : FoldProgress) where
  from_any : (next : Option ℕ) (ask : Ask B K O) → ForksNext nodes course_of tasks_of me next (record old { stage = stage }) new ask → ForksNext nodes course_of tasks_of me next old new ask
  from_any None ask forks = forks
  from_any (Some child) (Fork body kind) forks = forks
  from_any (Some child) ask forks = forks

pub returns-clause-next : goal.returns-clause-next
returns-clause-next g c = rw c.in-Forking.is (from_any _ _ _ _ _ (record c.args.self.now.course { stage = Forking c.in-Forking.me }) _ _ _ c.fork.ensures.forks)
