-- The end of a climb without hooks.
use Rattle.std.specs.Prelude.{ℕ, List, [], ◌∷◌}
use Rattle.fj_rules.specs.declared.event.Event.{Event}
use Rattle.fj_rules.specs.declared.event.Event.TheVariants as event
use Rattle.fj_rules.specs.declared.status.Status.TheVariants.{Normal}
use Rattle.fj_rules.specs.declared.said.Said.{Said}
use Rattle.fj_rules.specs.declared.said.Said.TheVariants as says
use Rattle.fj_tree.specs.declared.pass.PassHow.{PassHow}
use Rattle.fj_tree.specs.declared.pass.PassHow.TheVariants as how

-- the events of the end of a climb, and the reply
abbrev pub climb_end : PassHow → ℕ → List Event
climb_end how.Counted c = event.Dec c ∷ []
climb_end how.Spent c = []
climb_end how.Early c = []
climb_end how.Root c = event.Settle c Normal ∷ []

abbrev pub climb_says : PassHow → ℕ → Said
climb_says how.Counted c = says.Counted c
climb_says how.Spent c = says.Spent c
climb_says how.Early c = says.Early c
climb_says how.Root c = says.Root c
