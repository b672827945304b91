-- What a recursive body asks next, by its stage and what it hears.
use Rattle.std.specs.Prelude.{ℕ, ◌≡◌, ◌<◌, ⊤, ◌&&◌, Bool, true, false, List, [], Option, Some, None}
use Rattle.fj_rules.specs.declared.refusal.Refusal.{Refusal}
use Rattle.fj_rules.specs.declared.refusal.Refusal.TheVariants.{OutOfMemory}
use Rattle.fj_rules.specs.Refusals.{refusal_number}
use Rattle.fj_body.specs.declared.body.Heard.{Heard}
use Rattle.fj_body.specs.declared.body.Heard.TheVariants as hears
use Rattle.fj_body.specs.declared.body.Ask.{Ask}
use Rattle.fj_body.specs.declared.body.Ask.TheVariants as asks
use Rattle.fj_lazy.specs.Failures.{code_heard, is_want_of_room}
use Rattle.fj_recursive.specs.declared.recursive_stage.Left.{Left}
use Rattle.fj_recursive.specs.declared.recursive_stage.RecursiveStage.{RecursiveStage}
use Rattle.fj_recursive.specs.declared.recursive_stage.RecursiveStage.TheVariants.{Going, Forking, Waiting, Leaving}

-- whether a body has not begun, and its job has this key
abbrev pub is_under : {J K O : Type 0} → (J → K) → (K → K → Bool) → K → RecursiveStage J K O → Bool
is_under key_of eq key (Going j) = eq (key_of j) key
is_under key_of eq key _ = false

-- whether a half that was handed back is computed in place: there was no room for it, and it is the one that was forked
abbrev pub is_in_place : {J K O : Type 0} → (J → K) → (K → K → Bool) → K → Refusal → RecursiveStage J K O → Bool
is_in_place key_of eq key refusal stage = is_want_of_room refusal && is_under key_of eq key stage

-- the task that is joined
abbrev pub joined_in : {J K O : Type 0} → RecursiveStage J K O → Option ℕ
joined_in (Waiting t k v) = Some t
joined_in _ = None

-- it fails with this code, or releases a task first
abbrev pub Leaves : {B J K O : Type 0} → ℕ → RecursiveStage J K O → Ask B K O → Type 0
Leaves code after (asks.Release t) = after ≡ Leaving code
Leaves code after (asks.Fail n) = n ≡ code
Leaves code after _ = ⊥

-- it ends with a result, or joins a half first
abbrev pub Finishes : {B J K O : Type 0} → RecursiveStage J K O → Ask B K O → Type 0
Finishes after (asks.Join t) = joined_in after ≡ Some t
Finishes after (asks.Ok out) = ⊤
Finishes after _ = ⊥

-- it forks a left half, as a body that begins with it, and then goes on with the right one; or it leaves as out of memory
abbrev pub Forks : {B J K O : Type 0} → (J → K) → (B → RecursiveStage J K O) → (B → List (Left J K O)) → J → J → RecursiveStage J K O → Ask B K O → Type 0
Forks key_of stage_of lefts_of left right after (asks.Fork body kind) = (stage_of body ≡ Going left) × (lefts_of body ≡ []) × (after ≡ Forking right (key_of left))
Forks key_of stage_of lefts_of left right after ask = Leaves (refusal_number OutOfMemory) after ask

module _ {B J K O : Type 0} (key_of : J → K) (value : K → O) (leaf_of : J → O) (combined : O → O → O) (size : J → ℕ) (stage_of : B → RecursiveStage J K O) (lefts_of : B → List (Left J K O)) where
  -- these are the halves of a job, and the left one is forked
  pub record SplitsInto (job left right : J) (after : RecursiveStage J K O) (ask : Ask B K O) : Type 0 where
    pub halves : value (key_of job) ≡ combined (value (key_of left)) (value (key_of right))
    pub smaller : (size left < size job) × (size right < size job)
    pub forks : Forks key_of stage_of lefts_of left right after ask

  -- it forks the left half of a job that splits, and leaves only there; it finishes only where the job is a leaf
  abbrev pub GoesOn : J → RecursiveStage J K O → Ask B K O → Type 0
  GoesOn job after (asks.Join t) = (value (key_of job) ≡ leaf_of job) × (joined_in after ≡ Some t)
  GoesOn job after (asks.Ok out) = value (key_of job) ≡ leaf_of job
  GoesOn job after ask = (left : J) × (right : J) × SplitsInto job left right after ask

  -- it goes on at its first turn, and once the left half is a task or its value is there; it finishes with the result of the half that it joins;
  -- hearing anything else it leaves, with the code of that
  abbrev pub AsksNext : (K → K → Bool) → RecursiveStage J K O → Heard B K O → RecursiveStage J K O → Ask B K O → Type 0
  AsksNext eq (Leaving code) heard after ask = Leaves code after ask
  AsksNext eq (Going job) (hears.Start t) after ask = GoesOn job after ask
  AsksNext eq (Forking job key) (hears.Task t) after ask = GoesOn job after ask
  AsksNext eq (Forking job key) (hears.Handed body refusal) after ask =
      (is_in_place key_of eq key refusal (stage_of body) ≡ true → GoesOn job after ask)
      × (is_in_place key_of eq key refusal (stage_of body) ≡ false → Leaves (refusal_number OutOfMemory) after ask)
  AsksNext eq (Waiting t key v) (hears.Got heard out) after ask =
      (eq heard key ≡ true → Finishes after ask) × (eq heard key ≡ false → Leaves (refusal_number OutOfMemory) after ask)
  AsksNext eq before heard after ask = Leaves (code_heard heard) after ask
