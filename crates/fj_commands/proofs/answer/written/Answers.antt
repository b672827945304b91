use Rattle.fj_streams.proofs.Bytes.{appends_keeps}
use Rattle.fj_streams.proofs.CallsMade.{fine_failed}
use Rattle.fj_streams.proofs.Begun.{all_some}
use Rattle.fj_commands.proofs.Failed.{at_err, on_err}
use Rattle.fj_commands.proofs.answer.written.Goals as goal

pub returns-in-Ok-clause-err : goal.returns-in-Ok-clause-err
returns-in-Ok-clause-err g c =
    let whole = rw c.as_bytes.ensures.value at c.in-Ok.ensures.ok in
    at_err c.flush_whole.result (all_some _ _ _ (appends_keeps _ _ _ _ whole c.flush_whole.ensures.bytes))

pub returns-in-Ok-clause-failed : goal.returns-in-Ok-clause-failed
returns-in-Ok-clause-failed g c = on_err c.flush_whole.result (λ failed. fine_failed _ _ _ c.in-Ok.ensures.fine failed) c.flush_whole.ensures.failed
