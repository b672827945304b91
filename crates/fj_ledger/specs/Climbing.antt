-- Where a climb without hooks ends, by the history.
use Rattle.std.specs.Prelude.{ℕ, ◌≡◌, List, [], ◌∷◌, Option, Some, length, drop}
use Rattle.fj_rules.specs.declared.event.Event.{Event}
use Rattle.fj_rules.specs.Climbs.{Arrival, arrival, path, passed}
use Rattle.fj_rules.specs.Climbs as climb
use Rattle.fj_rules.specs.Answers.{root_of}
use Rattle.fj_tree.specs.declared.pass.PassHow.{PassHow}
use Rattle.fj_tree.specs.declared.pass.PassHow.TheVariants as how
use Rattle.fj_tree.specs.Passes.{PassEnd}

-- the arrival that ends the climb
abbrev pub IsEnd : PassHow → Arrival → Type 0
IsEnd how.Counted arrival = arrival ≡ climb.Counted
IsEnd how.Spent arrival = arrival ≡ climb.Spent
IsEnd how.Early arrival = arrival ≡ climb.Early
IsEnd how.Root arrival = ⊥

-- with this much of the path left, the climb ends at the first of it, and past the root where nothing is left
abbrev pub EndsAt : List Event → List ℕ → Option ℕ → PassEnd → Type 0
EndsAt h (c ∷ above) root end = IsEnd end.how (arrival h c) × (end.at.serial ≡ c)
EndsAt h [] root end = (end.how ≡ how.Root) × (root ≡ Some end.at.serial)

-- the climb from t
pub record Climbs (h : List Event) (t : ℕ) (end : PassEnd) : Type 0 where
  pub count : end.passed ≡ length (passed h t)
  pub ends : EndsAt h (drop (length (passed h t)) (path h t)) (root_of (path h t)) end
