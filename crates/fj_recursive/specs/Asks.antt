-- The tasks that a recursive body has forked.
use Rattle.std.specs.Prelude.{ℕ, List, [], ◌∷◌, ◌++◌, Option, Some, None, filter_map}
use Rattle.fj_body.specs.declared.body.Heard.{Heard}
use Rattle.fj_body.specs.declared.body.Heard.TheVariants as hears
use Rattle.fj_recursive.specs.declared.recursive_stage.Left.{Left}
use Rattle.fj_recursive.specs.declared.recursive_stage.Left.TheVariants.{Forked, Done}
use Rattle.fj_recursive.specs.declared.recursive_stage.RecursiveStage.{RecursiveStage}
use Rattle.fj_recursive.specs.declared.recursive_stage.RecursiveStage.TheVariants.{Forking, Waiting}

-- the task of a left half, if it was forked
abbrev pub task_of : {J K O : Type 0} → Left J K O → Option ℕ
task_of (Forked t k) = Some t
task_of (Done o) = None

-- the tasks that were forked, and are neither joined nor released yet, from left to right
abbrev pub forked_in : {J K O : Type 0} → List (Left J K O) → List ℕ
forked_in lefts = filter_map task_of lefts

-- the same once this is heard
abbrev pub forked_by : {B J K O : Type 0} → List (Left J K O) → RecursiveStage J K O → Heard B K O → List ℕ
forked_by lefts (Forking j k) (hears.Task t) = forked_in lefts ++ t ∷ []
forked_by lefts (Waiting t k v) (hears.Got heard out) = forked_in lefts
forked_by lefts (Waiting t k v) _ = forked_in lefts ++ t ∷ []
forked_by lefts _ _ = forked_in lefts
