use Rattle.std.proofs.Common.{[], ◌∷◌, map}
use Rattle.fj_history.specs.declared.entry.Entry.TheVariants as entry
use Rattle.fj_record.proofs.Written.{lines_then, returned, written_then}
use Rattle.fj_record.proofs.parts.write_part.Goals as goal

pub returns-in_err-write_events : goal.returns-in_err-write_events
returns-in_err-write_events g c =
    returned c.from_residual.result c.in_err-write_events.field-0.0 _ _ _ _ _ _ _ c.from_residual.ensures.1
    (lines_then (map entry.Event c.args.part.now.events.items) (entry.Seal ∷ [])) (rw c.as_slice.ensures.value at c.in_err-write_events.ensures.written)

pub returns : goal.returns
returns g c =
    rw (lines_then (map entry.Event c.args.part.now.events.items) (entry.Seal ∷ []))
    (written_then c.write_seal.result _ _ _ _ _ _ _ _ (rw c.as_slice.ensures.value at c.in_ok-write_events.ensures.written) c.write_seal.ensures)
