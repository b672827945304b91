-- A worker takes its choice.
use Rattle.std.specs.Prelude.{ℕ, ◌≡◌, List, [], ◌∷◌}
use Rattle.fj_rules.specs.declared.event.Event.{Event}
use Rattle.fj_rules.specs.declared.event.Event.TheVariants.{Out, Skip}
use Rattle.fj_rules.specs.declared.said.Said.{Said}
use Rattle.fj_rules.specs.declared.said.Said.TheVariants as says

-- the reply and the events of a step that takes the choice: the task is handed out or skipped, or nothing happens
abbrev pub TakesChoice : ℕ → Said → List Event → Type 0
TakesChoice w (says.Run t) events = events ≡ Out t w ∷ []
TakesChoice w (says.Skip t) events = events ≡ Skip t w ∷ []
TakesChoice w says.None events = events ≡ []
TakesChoice w (says.Refused r) events = events ≡ []
TakesChoice w says.Normal events = events ≡ []
TakesChoice w (says.Exceptional code) events = events ≡ []
TakesChoice w says.Cancelled events = events ≡ []
TakesChoice w _ events = ⊥
