use Rattle.std.proofs.Common.{length, ◌-◌, ◌≤◌, map, take}
use Rattle.std.specs.Io.KnownBytes.{Appends}
use Rattle.fj_streams.specs.Calls.{IsFine}
use Rattle.fj_history.specs.Entries.{AllHaveCodes, entries_text}
use Rattle.fj_history.specs.declared.entry.Entry.TheVariants as entry
use Rattle.fj_record.proofs.parts.write_events.Given as goal

abbrev pub invariant-loop-at : goal.invariant-loop-at
invariant-loop-at g l = record {
  within : l.at ≤ length l.events;
  written : Appends (g.W.Sink.contents l.fn.w) (g.W.Sink.contents l.w) (entries_text (map entry.Event (take l.at l.events)));
  codes : AllHaveCodes (take l.at l.events);
  fine : IsFine (g.W.Sink.calls l.fn.w) (g.W.Sink.calls l.w);
}

abbrev pub decreases-loop-at : goal.decreases-loop-at
decreases-loop-at g l = length l.events - l.at
