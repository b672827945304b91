use Rattle.std.specs.Prelude.{⊤, Err}
use Rattle.fj_check.proofs.Found.{entry_stops, silent}
use Rattle.fj_story.proofs.looking.LookingLineFilter.advance.Goals as goal

pub returns-in_default-clause-memory : goal.returns-in_default-clause-memory
returns-in_default-clause-memory g c = silent c.begin.result _

pub returns-in-Err-clause-err : goal.returns-in-Err-clause-err
returns-in-Err-clause-err g c =
    rw (← c.self.view_is, ← c.in-Some.ensures.value) (entry_stops c.in-Some.seen.checker c.in-Some.seen.events c.args.line.now c.in-Err.stop _ c.in-Err.ensures.err)

pub returns-in-Err-clause-memory : goal.returns-in-Err-clause-memory
returns-in-Err-clause-memory g c = silent {T = ⊤} (Err c.in-Err.stop) _
