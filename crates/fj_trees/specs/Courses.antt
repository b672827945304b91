-- How far a body that folds a node has come.
use Rattle.std.specs.Prelude.{ℕ, ◌≡◌, ◌+◌, ◌*◌, ⊤, List, [], Option, IfSome}
use Rattle.fj_trees.specs.declared.node.Node.{Node}
use Rattle.fj_trees.specs.declared.fold_progress.FoldStage.{FoldStage}
use Rattle.fj_trees.specs.declared.fold_progress.FoldStage.TheVariants.{New, Adding, Forking, Ended, Taking}
use Rattle.fj_trees.specs.declared.fold_progress.FoldProgress.{FoldProgress}
use Rattle.fj_trees.specs.Families.{IsChild, child_from}
use Rattle.fj_trees.specs.Tallies.{IsTally, numbers_from}

-- the partial sum is right, and the next one forked is a child
pub record IsCourse (nodes : List Node) (course : FoldProgress) : Type 0 where
  pub tally : IsTally nodes course.tally
  pub next : IfSome course.next (λ c. IsChild nodes course.tally.node c)

-- nothing was done for this node: the first child is next, to be forked and to be added
pub record IsNew (nodes : List Node) (number : ℕ) (course : FoldProgress) (forked : List ℕ) : Type 0 where
  pub stage : course.stage ≡ New
  pub next : course.next ≡ child_from nodes 0 number
  pub node : course.tally.node ≡ number
  pub child : course.tally.child ≡ child_from nodes 0 number
  pub weight : course.tally.weight ≡ 1
  pub tasks : forked ≡ []

-- while a child is forked there is room for its task
abbrev pub HasRoom : FoldStage → Type 0 → Type 0
HasRoom (Forking me) room = room
HasRoom _ room = ⊤

-- how many turns are left at most, in a tree of so many nodes
abbrev pub turns_in : ℕ → FoldStage → Option ℕ → Option ℕ → ℕ
turns_in count New next child = 2 * count + 3
turns_in count (Adding me) next child = 2 * count + 2
turns_in count (Forking me) next child = count + 1 + numbers_from count next
turns_in count Ended next child = count + 1
turns_in count Taking next child = numbers_from count child

abbrev pub turns_left : ℕ → FoldProgress → ℕ
turns_left count course = turns_in count course.stage course.next course.tally.child
