use Rattle.std.proofs.Common.{◌≡◌, ◌++◌, map, take}
use Rattle.std.specs.Prelude.{string_bytes}
use Rattle.fj_history.specs.Entries.{AllHaveCodes, entries_text}
use Rattle.fj_history.specs.declared.entry.Entry.TheVariants as entry
use Rattle.fj_history.proofs.write.push_entries.Given as goal

abbrev pub invariant-loop-event : goal.invariant-loop-event
invariant-loop-event l = record {
  written : string_bytes l.text ≡ string_bytes l.fn.text ++ entries_text (map entry.Event (take l.event-index l.events));
  codes : AllHaveCodes (take l.event-index l.events);
}
