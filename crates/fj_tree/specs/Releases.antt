-- What a release does.
use Rattle.std.specs.Prelude.{ℕ, ◌-◌, ◌==◌, ◌&&◌, Bool, true, false, if◌then◌else◌, Option, Some, None}
use Rattle.fj_rules.specs.declared.place.Place.{Place}
use Rattle.fj_rules.specs.declared.place.Place.TheVariants.{Queued, Held, Open, Gone}
use Rattle.fj_rules.specs.declared.refusal.Refusal.{Refusal}
use Rattle.fj_rules.specs.declared.refusal.Refusal.TheVariants.{Unknown, NotDone}
use Rattle.fj_tree.specs.declared.record.Record.{Record}
use Rattle.fj_tree.specs.Records.{is_named}

abbrev pub is_gone : Place → Bool
is_gone Gone = true
is_gone Open = false
is_gone (Held w) = false
is_gone (Queued o) = false

-- why the release of a record is refused, if it is: it must be there, be gone, and have no kept children
abbrev pub release_refusal : Option Record → Option Refusal
release_refusal None = Some Unknown
release_refusal (Some r) = if is_gone r.place && (r.children == 0) then None else Some NotDone

-- the record, with one child fewer
abbrev pub without_child : Record → Record
without_child r = record r { children = r.children - 1 }

-- the same if it is the named parent, otherwise the record as it is
abbrev pub without_child_of : Option ℕ → Record → Record
without_child_of parent r = if is_named parent r.serial then without_child r else r
