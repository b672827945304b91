-- What the body of a node asks next, by its stage and what it hears.
use Rattle.std.specs.Prelude.{ℕ, ◌≡◌, ◌+◌, ◌-◌, ⊤, true, List, [], ◌∷◌, ◌++◌, length, Option, Some, None, slice_get}
use Rattle.fj_rules.specs.declared.kind.Kind.TheVariants.{Completer}
use Rattle.fj_rules.specs.declared.refusal.Refusal.TheVariants.{OutOfMemory}
use Rattle.fj_rules.specs.Refusals.{refusal_number}
use Rattle.fj_body.specs.declared.body.Heard.{Heard}
use Rattle.fj_body.specs.declared.body.Heard.TheVariants.{Start, Hook, Task, Count}
use Rattle.fj_body.specs.declared.body.Ask.{Ask}
use Rattle.fj_body.specs.declared.body.Ask.TheVariants.{Fork, Take, Add, Try, Fail, HookDone}
use Rattle.fj_trees.specs.declared.node.Node.{Node}
use Rattle.fj_trees.specs.TreeValues.{children}
use Rattle.fj_trees.specs.declared.child_sum.ChildSum.{ChildSum}
use Rattle.fj_trees.specs.declared.fold_progress.FoldStage.{FoldStage}
use Rattle.fj_trees.specs.declared.fold_progress.FoldStage.TheVariants.{New, Adding, Forking, Ended, Taking}
use Rattle.fj_trees.specs.declared.fold_progress.FoldProgress.{FoldProgress}
use Rattle.fj_trees.specs.Families.{child_from}
use Rattle.fj_trees.specs.Courses.{IsNew}

-- the tasks of its children, the first child's first, once a child was forked as this task
abbrev pub with_task : FoldStage → ℕ → List ℕ → List ℕ
with_task (Forking me) t tasks = tasks ++ t ∷ []
with_task stage t tasks = tasks

-- the same once this is heard
abbrev pub tasks_by : {B K O : Type 0} → FoldStage → Heard B K O → List ℕ → List ℕ
tasks_by stage (Task t) tasks = with_task stage t tasks
tasks_by stage heard tasks = tasks

-- ---- its completion action

-- it gives its result
abbrev pub Gives : {B K O : Type 0} → Ask B K O → Type 0
Gives (HookDone out) = ⊤
Gives _ = ⊥

-- it takes the result of this child, which was forked as this task; it gives its own where no child is left, or this one was never forked
abbrev pub Takes : {B K O : Type 0} → Option ℕ → Option ℕ → Ask B K O → Type 0
Takes (Some child) (Some task) ask = ask ≡ Take task
Takes _ _ ask = Gives ask

-- the same of the next child: the k-th one was forked as the k-th task
abbrev pub TakesNext : {B K O : Type 0} → ChildSum → List ℕ → Ask B K O → Type 0
TakesNext tally tasks ask = Takes tally.child (slice_get tasks (tally.weight - 1)) ask

-- the value of this child was added, and the one after it is next
pub record Adds (nodes : List Node) (added : ℕ) (old new : FoldProgress) : Type 0 where
  pub stage : new.stage ≡ Taking
  pub child : new.tally.child ≡ child_from nodes (added + 1) old.tally.node
  pub weight : new.tally.weight ≡ old.tally.weight + 1

-- it adds the value of the next child, heard or computed in place, and takes the result of the one after it
abbrev pub AddsNext : {B K O : Type 0} → List Node → Option ℕ → FoldProgress → List ℕ → FoldProgress → Ask B K O → Type 0
AddsNext nodes (Some child) old tasks new ask = Adds nodes child old new × TakesNext new.tally tasks ask
AddsNext nodes None old tasks new ask = Gives ask × (new ≡ old)

-- ---- its turns

-- it fails as out of memory
abbrev pub Fails : {B K O : Type 0} → FoldProgress → FoldProgress → Ask B K O → Type 0
Fails old new ask = (ask ≡ Fail (refusal_number OutOfMemory)) × (new ≡ record old { stage = Ended })

-- after a refusal, or anything unexpected, it adds the value of the next child in its completion action, and fails before that
abbrev pub GoesOnWithout : {B K O : Type 0} → List Node → FoldStage → FoldProgress → List ℕ → FoldProgress → Ask B K O → Type 0
GoesOnWithout nodes Taking old tasks new ask = AddsNext nodes old.tally.child old tasks new ask
GoesOnWithout nodes stage old tasks new ask = Fails old new ask

module _ {B K O : Type 0} (nodes : List Node) (course_of : B → FoldProgress) (tasks_of : B → List ℕ) where
  -- it forks the next child, as a new body under its own task, and comes to the one after it, or fails; it ends where none is left
  abbrev pub ForksNext : ℕ → Option ℕ → FoldProgress → FoldProgress → Ask B K O → Type 0
  ForksNext me (Some child) old new (Fork body kind) =
      IsNew nodes child (course_of body) (tasks_of body)
      × (kind ≡ Completer true 0 (Some me))
      × (new ≡ record old { stage = Forking me; next = child_from nodes (child + 1) old.tally.node })
  ForksNext me (Some child) old new ask = Fails old new ask
  ForksNext me None old new ask = (ask ≡ Try) × (new ≡ record old { stage = Ended })

  -- at this stage
  abbrev pub AsksAt : FoldStage → FoldProgress → List ℕ → Heard B K O → FoldProgress → Ask B K O → Type 0
  AsksAt Taking old tasks heard new ask = GoesOnWithout nodes Taking old tasks new ask
  AsksAt New old tasks (Start me) new ask =
      (ask ≡ Add me (length (children nodes old.tally.node))) × (new ≡ record old { stage = Adding me })
  AsksAt (Adding me) old tasks (Count n) new ask = ForksNext me old.next old new ask
  AsksAt (Forking me) old tasks (Task t) new ask = ForksNext me old.next old new ask
  AsksAt stage old tasks (Hook caller) new ask = TakesNext old.tally tasks ask × (new ≡ record old { stage = Taking })
  AsksAt stage old tasks heard new ask = GoesOnWithout nodes stage old tasks new ask

  -- it adds the number of its children, and forks them in their order; in its completion action it takes their results in this order
  abbrev pub AsksNext : FoldProgress → List ℕ → Heard B K O → FoldProgress → Ask B K O → Type 0
  AsksNext old tasks heard new ask = AsksAt old.stage old tasks heard new ask
