use Rattle.std.proofs.Common.{◌++◌, ◌∷◌, [], refl}
use Rattle.std.specs.Prelude.{Result, Ok, Err}
use Rattle.fj_history.specs.Entries.{entries_text}
use Rattle.fj_history.specs.Headings.{heading_line}
use Rattle.fj_lines.specs.declared.read.TheConstants.{LINE_FEED}
use Rattle.fj_record.specs.declared.fault.WriteFault.{WriteFault}
use Rattle.fj_record.specs.Texts.{history_entries}
use Rattle.fj_record.proofs.Written.{returned, written_then, history_whole}
use Rattle.fj_record.proofs.history.write_all.Goals as goal

pub returns-in_err-write_heading-clause-written : goal.returns-in_err-write_heading-clause-written
returns-in_err-write_heading-clause-written g c =
    returned c.from_residual.result c.in_err-write_heading.field-0.0 _ _ _ _ _ (heading_line c.args.mode c.args.limits ++ LINE_FEED ∷ [])
    (entries_text (history_entries c.args.parts.now c.args.events.now)) c.from_residual.ensures.1 refl c.in_err-write_heading.ensures

pub returns-in_err-write_parts-clause-written : goal.returns-in_err-write_parts-clause-written
returns-in_err-write_parts-clause-written g c =
    let stopped : Result Unit WriteFault = Err c.in_err-write_parts.field-0.0 in
    returned c.from_residual-in_err-write_parts.result c.in_err-write_parts.field-0.0 _ _ _ _ _ _ _ c.from_residual-in_err-write_parts.ensures.1
    (history_whole c.args.mode c.args.limits c.args.parts.now c.args.events.now)
    (written_then stopped _ _ _ _ _ _ _ _ c.in_ok-write_heading.ensures c.in_err-write_parts.ensures)

pub returns-clause-written : goal.returns-clause-written
returns-clause-written g c =
    let done : Result Unit WriteFault = Ok tt in
    rw (history_whole c.args.mode c.args.limits c.args.parts.now c.args.events.now)
    (written_then c.write_events.result _ _ _ _ _ _ _ _
    (written_then done _ _ _ _ _ _ _ _ c.in_ok-write_heading.ensures c.in_ok-write_parts.ensures)
    c.write_events.ensures.written)
