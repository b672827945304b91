-- The state of a machine as contracts see it, and what of it was sealed.
use Rattle.std.specs.Prelude.{ℕ, ◌+◌, List, [], ◌++◌, length, drop}
use Rattle.fj_rules.specs.declared.event.Event.{Event}
use Rattle.fj_rules.specs.declared.mode.Mode.{Mode}
use Rattle.fj_rules.specs.Bounds.{Bounds, Pool}
use Rattle.fj_rules.specs.Places.{gone}

-- its pool; the events that were sealed; all events, the sealed ones first; and how many seals there were
pub record Past : Type 0 where
  pub pool : Pool
  pub sealed : List Event
  pub events : List Event
  pub seals : ℕ

-- before anything has happened
abbrev pub fresh : Mode → Bounds → Past
fresh mode limits = record { pool = record { mode = mode; limits = limits }; sealed = []; events = []; seals = 0 }

-- with these events appended
abbrev pub grown : Past → List Event → Past
grown past events = record past { events = past.events ++ events }

-- after a seal: what has happened stays, and all of it is sealed
abbrev pub sealed_now : Past → Past
sealed_now past = record past { sealed = past.events; seals = past.seals + 1 }

-- the events since the last seal
abbrev pub present : Past → List Event
present past = drop (length past.sealed) past.events

-- the tasks that became gone since the last seal
abbrev pub gone_since : Past → List ℕ
gone_since past = drop (length (gone past.sealed)) (gone past.events)

-- how many events there may be: those that were sealed, and as many more as the limit allows
abbrev pub limit : Past → ℕ
limit past = length past.sealed + past.pool.limits.events
