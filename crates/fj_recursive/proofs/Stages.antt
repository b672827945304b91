-- What a recursive body asks next.
use Rattle.std.proofs.Common.{ℕ, ◌≡◌, ◌<◌, List}
use Rattle.fj_rules.specs.declared.refusal.Refusal.TheVariants.{OutOfMemory}
use Rattle.fj_rules.specs.Refusals.{refusal_number}
use Rattle.fj_body.specs.declared.body.Ask.{Ask}
use Rattle.fj_body.specs.declared.body.Ask.TheVariants as asks
use Rattle.fj_recursive.specs.declared.recursive_stage.Left.{Left}
use Rattle.fj_recursive.specs.declared.recursive_stage.RecursiveStage.{RecursiveStage}
use Rattle.fj_recursive.specs.Stages.{Finishes, Forks, GoesOn, Leaves}

module _ {B J K O : Type 0} (key_of : J → K) (value : K → O) (leaf_of : J → O) (combined : O → O → O) (size : J → ℕ) (stage_of : B → RecursiveStage J K O) (lefts_of : B → List (Left J K O)) (job : J) (after : RecursiveStage J K O) where
  -- where it forks a half of the job
  pub goes_by_fork : (left right : J) (ask : Ask B K O) → value (key_of job) ≡ combined (value (key_of left)) (value (key_of right)) → (size left < size job) × (size right < size job)
      → Forks key_of stage_of lefts_of left right after ask → GoesOn key_of value leaf_of combined size stage_of lefts_of job after ask
  goes_by_fork left right (asks.Join t) halves smaller forks = absurd forks
  goes_by_fork left right (asks.Ok out) halves smaller forks = absurd forks
  goes_by_fork left right ask halves smaller forks = (left, right, record { halves = halves; smaller = smaller; forks = forks })

  -- where the job is a leaf
  pub goes_by_leaf : (ask : Ask B K O) → value (key_of job) ≡ leaf_of job → Finishes after ask → GoesOn key_of value leaf_of combined size stage_of lefts_of job after ask
  goes_by_leaf (asks.Join t) leaf finishes = (leaf, finishes)
  goes_by_leaf (asks.Ok out) leaf finishes = leaf
  goes_by_leaf ask leaf finishes = absurd finishes

-- out of memory it leaves instead of forking
pub leaves_unforked : {B J K O : Type 0} (key_of : J → K) (stage_of : B → RecursiveStage J K O) (lefts_of : B → List (Left J K O)) (left right : J) (after : RecursiveStage J K O) (ask : Ask B K O) → Leaves (refusal_number OutOfMemory) after ask → Forks key_of stage_of lefts_of left right after ask
leaves_unforked key_of stage_of lefts_of left right after (asks.Fork body kind) leaves = absurd leaves
leaves_unforked key_of stage_of lefts_of left right after ask leaves = leaves
