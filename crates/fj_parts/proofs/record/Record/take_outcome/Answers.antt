use Rattle.std.proofs.Common.{sym}
use Rattle.fj_parts.proofs.record.Record.take_outcome.Goals as goal

pub returns-in-Some-clause-outcome : goal.returns-in-Some-clause-outcome
returns-in-Some-clause-outcome g c = (c.in_ok-t.t, sym c.in_ok-t.ensures, rw (c.in-Some.ensures.1, c.take-kept.ensures.taken) at c.told_outcome.ensures)

pub returns-in-Some-clause-taken : goal.returns-in-Some-clause-taken
returns-in-Some-clause-taken g c = (c.in_ok-t.t, sym c.in_ok-t.ensures, c.take-kept.ensures.entries)
