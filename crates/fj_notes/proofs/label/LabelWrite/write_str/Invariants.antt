use Rattle.std.proofs.Common.{◌≡◌, take}
use Rattle.fj_notes.specs.Labels.{label_then}
use Rattle.fj_notes.proofs.label.LabelWrite.write_str.Given as goal

abbrev pub invariant-loop-byte : goal.invariant-loop-byte
invariant-loop-byte l = l.self ≡ label_then l.fn.self (take l.byte-index l.byte-items)
