-- What an arrival at a completer does.
use Rattle.std.specs.Prelude.{◌-◌, Bool, true, false, not, ◌||◌, if◌then◌else◌, nat_lt}
use Rattle.fj_rules.specs.declared.place.Place.{Place}
use Rattle.fj_rules.specs.declared.place.Place.TheVariants.{Queued, Held, Open, Gone}
use Rattle.fj_rules.specs.Statuses.{is_undone}
use Rattle.fj_tree.specs.declared.record.Record.{Record}
use Rattle.fj_tree.specs.declared.arrive.Arrived.{Arrived}
use Rattle.fj_tree.specs.declared.arrive.Arrived.TheVariants.{Counted, Fire, Spent, Early}
use Rattle.fj_tree.specs.Records.{made_spent}

-- fired, passed or done
abbrev pub is_spent : Record → Bool
is_spent r = r.fired || not (is_undone r.status)

abbrev pub is_queued_or_held : Place → Bool
is_queued_or_held (Queued o) = true
is_queued_or_held (Held w) = true
is_queued_or_held Open = false
is_queued_or_held Gone = false

-- the first case that holds
abbrev pub arrival_at : Record → Arrived
arrival_at r =
    if is_spent r then Spent
    else if nat_lt 0 r.pending then Counted
    else if is_queued_or_held r.place then Early
    else Fire

-- the record after such an arrival
abbrev pub arrived : Arrived → Record → Record
arrived Counted r = record r { pending = r.pending - 1 }
arrived Fire r = made_spent r
arrived Spent r = r
arrived Early r = r
