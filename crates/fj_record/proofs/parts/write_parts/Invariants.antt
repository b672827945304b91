use Rattle.std.proofs.Common.{take}
use Rattle.std.specs.Io.KnownBytes.{Appends}
use Rattle.fj_streams.specs.Calls.{IsFine}
use Rattle.fj_history.specs.Entries.{entries_text}
use Rattle.fj_record.specs.Texts.{parts_entries}
use Rattle.fj_record.proofs.parts.write_parts.Given as goal

abbrev pub invariant-loop-part : goal.invariant-loop-part
invariant-loop-part g l = record {
  written : Appends (g.W.Sink.contents l.fn.w) (g.W.Sink.contents l.w) (entries_text (parts_entries (take l.part-index l.parts)));
  fine : IsFine (g.W.Sink.calls l.fn.w) (g.W.Sink.calls l.w);
}
