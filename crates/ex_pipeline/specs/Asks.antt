-- What the body of a stage asks.
use Rattle.std.specs.Prelude.{ℕ, ◌≡◌, ⊤, true, Option, Some, None}
use Rattle.fj_rules.specs.declared.kind.Kind.{Kind}
use Rattle.fj_rules.specs.declared.kind.Kind.TheVariants.{Completer}
use Rattle.fj_body.specs.declared.body.Ask.{Ask}
use Rattle.fj_body.specs.declared.body.Ask.TheVariants.{Fork}
use Rattle.ex_pipeline.specs.declared.item.Item.{Item}
use Rattle.ex_pipeline.specs.declared.stage.Stage.{Stage}
use Rattle.ex_pipeline.specs.Stages.{after}

-- how many arrivals the stage before this one waits for: one, that of its next stage; the last waits for none
abbrev pub arrivals_before : Option Stage → ℕ
arrivals_before None = 0
arrivals_before (Some next) = 1

-- the kind under which a stage is forked under a task: a completer that relays its codes
abbrev pub kind_of : Stage → ℕ → Kind
kind_of stage me = Completer true (arrivals_before (after stage)) (Some me)

-- it forks the body of the stage that is given this number, if there is one, under this task
abbrev pub ForksNext : {B O : Type 0} → (B → Item) → Option Item → ℕ → Ask B Item O → Type 0
ForksNext key_of (Some next) me (Fork body kind) = (key_of body ≡ next) × (kind ≡ kind_of next.stage me)
ForksNext key_of (Some next) me _ = ⊥
ForksNext key_of None me (Fork body kind) = ⊥
ForksNext key_of None me _ = ⊤
