use Rattle.std.proofs.Common.{rules}
use Rattle.fj_streams.proofs.CallsMade.{goes_failed}
use Rattle.fj_commands.proofs.script_text.read_script.Goals as goal

pub returns-then-ne : goal.returns-then-ne
returns-then-ne g c = record { failed = λ is. goes_failed _ _ _ _ c.loop-reads.invariant (c.in-Err.ensures.counts.0 (search rules)) }
