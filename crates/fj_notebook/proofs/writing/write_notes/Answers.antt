use Rattle.std.specs.Prelude.{Result, Ok, Err}
use Rattle.fj_record.specs.declared.fault.WriteFault.{WriteFault}
use Rattle.fj_notebook.proofs.Written.{wrote_none, writes_then, writes_same}
use Rattle.fj_notebook.proofs.writing.write_notes.Goals as goal

pub loop-from-init : goal.loop-from-init
loop-from-init g c = wrote_none _ _

pub loop-from-preserved : goal.loop-from-preserved
loop-from-preserved g c =
    let went : Result Unit WriteFault = Ok tt in
    writes_then went _ _ _ _ _ _ c.loop-from.invariant c.in_ok-write_chunk.ensures

pub returns : goal.returns
returns g c = c.loop-from.invariant

pub returns-in_err-write_chunk : goal.returns-in_err-write_chunk
returns-in_err-write_chunk g c =
    let fault = c.in_err-write_chunk.field-0.0 in
    let stopped : Result Unit WriteFault = Err fault in
    writes_same c.from_residual.result fault _ _ _ _ c.from_residual.ensures.1 (writes_then stopped _ _ _ _ _ _ c.loop-from.invariant c.in_err-write_chunk.ensures)
