use Rattle.fj_notes.proofs.Labels.{label_utf8}
use Rattle.fj_notes.proofs.label.Label.as_str.Goals as goal

pub unreachable-requires : goal.unreachable-requires
unreachable-requires c = c.in_default.ensures.cases.0 (rw c.as_bytes.ensures.bytes (label_utf8 _ c.as_bytes.ensures.label))
