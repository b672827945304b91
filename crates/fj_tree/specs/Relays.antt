-- How far a code is relayed from a task.
use Rattle.std.specs.Prelude.{ℕ, Bool, false, if◌then◌else◌, List, [], ◌∷◌, Option, Some, None, option_map}
use Rattle.fj_rules.specs.declared.status.Status.{Status}
use Rattle.fj_rules.specs.Lists.{is_in}
use Rattle.fj_rules.specs.Statuses.{is_undone}
use Rattle.fj_rules.specs.Tasks.{relay_in}
use Rattle.fj_tree.specs.declared.record.Record.{Record}
use Rattle.fj_tree.specs.Handles.{Handle}
use Rattle.fj_tree.specs.Paths.{above, path}
use Rattle.fj_tree.specs.Records.{Records, record_of, with_status}

-- whether the record is there and undone
abbrev pub undone_in : Option Record → Bool
undone_in None = false
undone_in (Some r) = is_undone r.status

abbrev pub is_undone_at : Records → Handle → Bool
is_undone_at t h = undone_in (record_of t h)

-- whether its kind says relay
abbrev pub relays_at : Records → Handle → Bool
relays_at t h = relay_in (option_map (λ r. r.kind) (record_of t h))

-- the parent to which a task relays its status
abbrev pub next_relayed : Records → Handle → Option Handle
next_relayed t h = if relays_at t h then above t h else None

-- the longest prefix of the path in which each is undone, and each but the last says relay
abbrev pub relayed_along : Records → List Handle → List Handle
relayed_along t [] = []
relayed_along t (at ∷ above) = if is_undone_at t at then at ∷ (if relays_at t at then relayed_along t above else []) else []

unfoldable pub relayed : Records → Handle → List Handle
relayed t h = relayed_along t (path t h)

-- a record after these got a status
abbrev pub after_relay : List ℕ → Status → Record → Record
after_relay relayed s r = if is_in r.serial relayed then with_status s r else r
