use Rattle.fj_streams.proofs.Begun.{starves_at_once, stops_at_once}
use Rattle.fj_streams.proofs.read_loop.filter.Goals as goal

pub returns-in_default-clause-err : goal.returns-in_default-clause-err
returns-in_default-clause-err g c = stops_at_once g.F.LineFilter.rules _ _ _ _ _

pub returns-in_default-clause-memory : goal.returns-in_default-clause-memory
returns-in_default-clause-memory g c = starves_at_once g.F.LineFilter.rules g.F.LineFilter.needs_memory _ _ _
