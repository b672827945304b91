-- The parts of a history that were handed out.
use Rattle.std.specs.Prelude.{ℕ, ◌≡◌, List, length}
use Rattle.std.specs.List.{flat_map}
use Rattle.fj_rules.specs.declared.event.Event.{Event}
use Rattle.fj_rules.specs.declared.epoch.Sealed.{Sealed}
use Rattle.fj_rules.specs.Places.{gone}
use Rattle.fj_rules.specs.Pasts.{Past}

-- their events, joined
unfoldable pub events_in : List Sealed → List Event
events_in parts = flat_map (λ part. part.events.items) parts

-- their gone tasks, joined
unfoldable pub gone_in : List Sealed → List ℕ
gone_in parts = flat_map (λ part. part.gone.items) parts

-- these are the parts that were handed out of the history
pub record Fits (parts : List Sealed) (past : Past) : Type 0 where
  pub events : events_in parts ≡ past.sealed
  pub gone : gone_in parts ≡ gone past.sealed
  pub count : length parts ≡ past.seals
