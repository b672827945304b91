-- The text of a history that was sealed in parts.
use Rattle.std.specs.Prelude.{ℕ, List, [], ◌∷◌, ◌++◌, map, flat_map}
use Rattle.fj_rules.specs.declared.epoch.Sealed.{Sealed}
use Rattle.fj_rules.specs.declared.event.Event.{Event}
use Rattle.fj_rules.specs.Bounds.{Pool}
use Rattle.fj_lines.specs.declared.read.TheConstants.{LINE_FEED}
use Rattle.fj_history.specs.Entries.{entries_text}
use Rattle.fj_history.specs.Headings.{heading_line}
use Rattle.fj_history.specs.declared.entry.Entry.{Entry}
use Rattle.fj_history.specs.declared.entry.Entry.TheVariants as entry

-- a part's events, and its seal
abbrev pub part_entries : Sealed → List Entry
part_entries part = map entry.Event part.events.items ++ entry.Seal ∷ []

abbrev pub parts_entries : List Sealed → List Entry
parts_entries parts = flat_map part_entries parts

-- the parts, and the events since the last seal
abbrev pub history_entries : List Sealed → List Event → List Entry
history_entries parts events = parts_entries parts ++ map entry.Event events

-- the heading, and the lines of the entries
abbrev pub history_text : Pool → List Sealed → List Event → List ℕ
history_text pool parts events = (heading_line pool.mode pool.limits ++ LINE_FEED ∷ []) ++ entries_text (history_entries parts events)

-- the events that entries tell
abbrev pub event_told : Entry → List Event
event_told (entry.Event e) = e ∷ []
event_told entry.Seal = []

abbrev pub events_told : List Entry → List Event
events_told entries = flat_map event_told entries
