-- How far a climb without hooks goes from a task, and what ends it.
use Rattle.std.specs.Prelude.{ℕ, ◌≡◌, Bool, true, false, List, [], ◌∷◌, length, drop, ◌&&◌, ◌==◌, if◌then◌else◌, Option, Some, None, option_map, option_and_then}
use Rattle.std.specs.List.{take_while}
use Rattle.fj_rules.specs.declared.place.Place.TheVariants.{Open}
use Rattle.fj_rules.specs.Lists.{is_in}
use Rattle.fj_tree.specs.declared.record.Record.{Record}
use Rattle.fj_tree.specs.declared.arrive.Arrived.{Arrived}
use Rattle.fj_tree.specs.declared.arrive.Arrived.TheVariants.{Counted, Fire, Spent, Early}
use Rattle.fj_tree.specs.declared.pass.PassHow.{PassHow}
use Rattle.fj_tree.specs.declared.pass.PassHow.TheVariants as how
use Rattle.fj_tree.specs.Arrivals.{arrival_at, arrived}
use Rattle.fj_tree.specs.Handles.{Handle}
use Rattle.fj_tree.specs.Paths.{path, root_of}
use Rattle.fj_tree.specs.Records.{Records, record_of, changed, with_place, made_spent}

-- where a climb ends: how many are passed, the completer that ends it or the passed root, and what ends it there
pub record PassEnd : Type 0 where
  pub passed : ℕ
  pub at : Handle
  pub how : PassHow

-- what an arrival at the record of this handle would do
abbrev pub arrival_of : Records → Handle → Option Arrived
arrival_of t h = option_map arrival_at (record_of t h)

abbrev pub does_fire : Option Arrived → Bool
does_fire (Some Fire) = true
does_fire (Some Counted) = false
does_fire (Some Spent) = false
does_fire (Some Early) = false
does_fire None = false

-- the records once the body of this task has ended, so that its place hinders nothing
abbrev pub with_ended_body : Records → Handle → Records
with_ended_body t h = changed t h.key (with_place Open)

-- whether a climb from h passes this one
abbrev pub is_passed : Records → Handle → Handle → Bool
is_passed t h at = does_fire (arrival_of (with_ended_body t h) at)

-- the longest prefix of the path at whose members an arrival fires
unfoldable pub passed : Records → Handle → List Handle
passed t h = take_while (is_passed t h) (path t h)

-- the path from the first that is not passed
unfoldable pub not_passed : Records → Handle → List Handle
not_passed t h = drop (length (passed t h)) (path t h)

-- how such an arrival ends a climb
abbrev pub end_by : Arrived → Option PassHow
end_by Counted = Some how.Counted
end_by Spent = Some how.Spent
end_by Early = Some how.Early
end_by Fire = None

-- what ends a climb from h at this one, if anything does
abbrev pub stop_at : Records → Handle → Handle → Option PassHow
stop_at t h at = option_and_then end_by (arrival_of (with_ended_body t h) at)

-- with this much of the path left, the climb ends at the first of it, and past the root where nothing is left
abbrev pub EndsBefore : Records → Handle → List Handle → PassEnd → Type 0
EndsBefore t h [] end = (end.how ≡ how.Root) × (end.at ≡ root_of t h)
EndsBefore t h (at ∷ above) end = (stop_at t h at ≡ Some end.how) × (end.at ≡ at)

abbrev pub EndsAs : Records → Handle → PassEnd → Type 0
EndsAs t h end = EndsBefore t h (not_passed t h) end

-- whether the arrival that ends the climb is counted
abbrev pub does_count : PassHow → Bool
does_count how.Counted = true
does_count how.Spent = false
does_count how.Early = false
does_count how.Root = false

-- a record after a climb that passed these and ended so: the passed ones are spent, and the record at which the climb is counted
-- waits for one arrival fewer
abbrev pub after_climb : List ℕ → PassEnd → Record → Record
after_climb passed end r =
    if is_in r.serial passed then made_spent r
    else if does_count end.how && (r.serial == end.at.serial) then arrived Counted r
    else r
