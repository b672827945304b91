use Rattle.fj_notebook.proofs.Written.{writes_nothing, writes_lines}
use Rattle.fj_notebook.proofs.writing.write_chunk.Goals as goal

pub returns-in-Ok : goal.returns-in-Ok
returns-in-Ok g c = writes_lines c.write_text.result _ _ _ _ _ _ _ c.clear.ensures.bytes c.as_str.ensures.value c.in-Ok.ensures c.write_text.ensures

pub returns-in-Err : goal.returns-in-Err
returns-in-Err g c = writes_nothing _ _
