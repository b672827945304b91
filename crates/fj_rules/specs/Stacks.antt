-- Which tasks a worker holds.
use Rattle.std.specs.Prelude.{ℕ, ◌==◌, if◌then◌else◌, List, [], ◌∷◌, Option, Some, None}
use Rattle.std.specs.List.{filter_map}
use Rattle.fj_rules.specs.declared.event.Event.{Event}
use Rattle.fj_rules.specs.declared.event.Event.TheVariants.{Out, End}
use Rattle.fj_rules.specs.Lists.{is_in, number_if}

abbrev pub out_by : ℕ → Event → Option ℕ
out_by w (Out t v) = number_if (w == v) t
out_by w _ = None

abbrev pub ended_by : ℕ → Event → Option ℕ
ended_by w (End t v) = number_if (w == v) t
ended_by w _ = None

-- the tasks whose bodies ended at the worker
unfoldable pub ended : List Event → ℕ → List ℕ
ended h w = filter_map (ended_by w) h

-- the task in front of the others, unless its body ended later
abbrev pub unless_ended : Option ℕ → List ℕ → List ℕ → List ℕ
unless_ended None ended others = others
unless_ended (Some t) ended others = if is_in t ended then others else t ∷ others

-- the tasks that were handed to the worker and whose bodies have not ended there later, in order
unfoldable pub stack : List Event → ℕ → List ℕ
stack [] w = []
stack (e ∷ later) w = unless_ended (out_by w e) (ended later w) (stack later w)
