-- Whole runs of the machine.
use Rattle.std.specs.Prelude.{◌≡◌, List, [], ◌∷◌}
use Rattle.fj_rules.specs.declared.event.Event.{Event}
use Rattle.fj_rules.specs.declared.step.Step.{Step}
use Rattle.fj_rules.specs.declared.said.Said.{Said}
use Rattle.fj_rules.specs.declared.mode.Mode.{Mode}
use Rattle.fj_rules.specs.Bounds.{Bounds}
use Rattle.fj_rules.specs.Answers.{answer}
pub use Rattle.fj_rules.specs.Pasts.{Past, fresh, grown}

-- at this past the step has this reply, and appends these events
abbrev pub Answers : Past → Step → Said → List Event → Type 0
Answers past asked reply events = answer past asked ≡ (reply, events)

-- at the old past the step has this reply, and it leads to the new past
abbrev pub Steps : Past → Step → Said → Past → Type 0
Steps old asked reply new = (reply ≡ (answer old asked).0) × (new ≡ grown old (answer old asked).1)

-- from the old past the steps have these replies, each step its own, and lead to the new past
abbrev pub RunsFrom : Past → List Step → List Said → Past → Type 0
RunsFrom old [] [] new = new ≡ old
RunsFrom old (asked ∷ steps) (reply ∷ replies) new =
    (events : List Event) × Answers old asked reply events × RunsFrom (grown old events) steps replies new
RunsFrom old [] (reply ∷ replies) new = ⊥
RunsFrom old (asked ∷ steps) [] new = ⊥

-- from the start the steps have these replies and lead to that past
abbrev pub Runs : Mode → Bounds → List Step → List Said → Past → Type 0
Runs mode limits steps replies past = RunsFrom (fresh mode limits) steps replies past
