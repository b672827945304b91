use Rattle.std.proofs.Common.{List, ℕ, [], ◌∷◌, get_or, ap, ◌∙◌}
use Rattle.fj_notes.specs.Labels.{label_then}
use Rattle.fj_notes.proofs.Labels.{written_none, written_more}
use Rattle.fj_notes.proofs.label.LabelWrite.write_str.Goals as goal

pub loop-byte-init : goal.loop-byte-init
loop-byte-init c = written_none c.args.self.now c.as_bytes-label.ensures.label

pub loop-byte-preserved : goal.loop-byte-preserved
loop-byte-preserved c =
    let items = c.as_bytes-byte-items.result.now in
    let i = c.loop-byte.byte-index in
    c.push.ensures ∙ ap (λ (l : List ℕ). label_then l (get_or items i 0 ∷ [])) c.loop-byte.invariant ∙ written_more c.args.self.now items i c.loop-byte-test.true
