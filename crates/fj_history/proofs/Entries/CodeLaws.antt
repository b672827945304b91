-- The codes of events behind events.
use Rattle.std.proofs.Common.{List, [], ◌∷◌, ◌++◌}
use Rattle.fj_rules.specs.declared.event.Event.{Event}
use Rattle.fj_history.specs.Entries.{AllHaveCodes}

pub codes_then : (es fs : List Event) → AllHaveCodes es → AllHaveCodes fs → AllHaveCodes (es ++ fs)
codes_then [] fs first second = second
codes_then (e ∷ es) fs first second = (first.0, codes_then es fs first.1 second)
