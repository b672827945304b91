use Rattle.std.specs.Prelude.{Result, Err}
use Rattle.fj_record.specs.declared.fault.WriteFault.{WriteFault}
use Rattle.fj_record.proofs.Written.{parts_whole, returned, written_then}
use Rattle.fj_record.proofs.parts.write_parts.Goals as goal

pub returns-in_err-write_part : goal.returns-in_err-write_part
returns-in_err-write_part g c =
    let stopped : Result Unit WriteFault = Err c.in_err-write_part.field-0.0 in
    let so_far = c.loop-part.invariant in
    returned c.from_residual.result c.in_err-write_part.field-0.0 _ _ _ _ _ _ _ c.from_residual.ensures.1
    (parts_whole c.args.parts.now c.loop-part.part-index c.part-item.result c.loop-part-test.true c.part-item.is)
    (written_then stopped _ _ _ _ _ _ _ _ (so_far.written, so_far.fine) c.in_err-write_part.ensures)
