-- A completer's pending count, and whether it is spent.
use Rattle.std.specs.Prelude.{ℕ, Bool, false, ◌||◌, not, ◌+◌, ◌-◌, ◌==◌, List, length, Option, None}
use Rattle.std.specs.List.{filter_map, list_any, sum}
use Rattle.fj_rules.specs.declared.event.Event.{Event}
use Rattle.fj_rules.specs.declared.event.Event.TheVariants.{Add, Dec, Fire, Pass}
use Rattle.fj_rules.specs.Lists.{number_if}
use Rattle.fj_rules.specs.Tasks.{kind, count_in}
use Rattle.fj_rules.specs.Statuses.{status, is_undone}

abbrev pub added_by : ℕ → Event → Option ℕ
added_by c (Add d n) = number_if (d == c) n
added_by c _ = None

abbrev pub counted_by : ℕ → Event → Option ℕ
counted_by c (Dec d) = number_if (d == c) d
counted_by c _ = None

-- the count in the kind and what was added to it, without the arrivals that were counted
unfoldable pub pending : List Event → ℕ → ℕ
pending h c = count_in (kind h c) + sum (filter_map (added_by c) h) - length (filter_map (counted_by c) h)

abbrev pub fires_or_passes : ℕ → Event → Bool
fires_or_passes c (Fire d how) = d == c
fires_or_passes c (Pass d) = d == c
fires_or_passes c _ = false

-- fired, passed or done
unfoldable pub is_spent : List Event → ℕ → Bool
is_spent h c = list_any (fires_or_passes c) h || not (is_undone (status h c))
