-- What the body of a target asks.
use Rattle.std.specs.Prelude.{ℕ, ◌≡◌, true, List, Option, Some, None, IfSome, slice_get}
use Rattle.fj_rules.specs.declared.kind.Kind.TheVariants.{Completer}
use Rattle.fj_body.specs.declared.body.Ask.{Ask}
use Rattle.fj_body.specs.declared.body.Ask.TheVariants.{Fork, Try, Fail}
use Rattle.fj_body.specs.declared.body.Heard.{Heard}
use Rattle.fj_body.specs.declared.body.Heard.TheVariants.{Start}
use Rattle.ex_build.specs.declared.make.Course.{Course}
use Rattle.ex_build.specs.declared.make.Course.TheVariants.{New, Adding, Forking, Taking}
use Rattle.ex_build.specs.declared.target.Source.{Source}
use Rattle.ex_build.specs.declared.target.Source.TheVariants.{Compiles, Fails}
use Rattle.ex_build.specs.declared.target.Target.{Target}

-- the task of a body that adds or forks
abbrev pub task_in : Course → Option ℕ
task_in New = None
task_in (Adding me) = Some me
task_in (Forking me) = Some me
task_in Taking = None

-- the same once this is heard: the first turn gives it
abbrev pub own_task : {B K O : Type 0} → Course → Heard B K O → Option ℕ
own_task New (Start me) = Some me
own_task course _ = task_in course

-- the task that it has is this one, if it has one
abbrev pub HasTask : Option ℕ → Course → Type 0
HasTask own course = IfSome (task_in course) (λ me. own ≡ Some me)

-- how a body with these sources ends: by `Try`, or with the code of its compiler
abbrev pub end_of : {B K O : Type 0} → Source → Ask B K O
end_of (Compiles own) = Try
end_of (Fails code) = Fail code

-- it forks the body of this target under this task, as a completer that relays its codes; where there is none it fails with 404
abbrev pub ForksTarget : {B K O : Type 0} → (B → K) → Option K → ℕ → Ask B K O → Type 0
ForksTarget key_of (Some target) me (Fork body kind) = (key_of body ≡ target) × (kind ≡ Completer true 0 (Some me))
ForksTarget key_of (Some target) me _ = ⊥
ForksTarget key_of None me ask = ask ≡ Fail 404

-- the same of the target of an input in a plan; where no input is left it ends by its sources
abbrev pub ForksInput : {B O : Type 0} → (B → Target) → List Target → Source → Option ℕ → ℕ → Ask B Target O → Type 0
ForksInput key_of plan source (Some input) me ask = ForksTarget key_of (slice_get plan input) me ask
ForksInput key_of plan source None me ask = ask ≡ end_of source
