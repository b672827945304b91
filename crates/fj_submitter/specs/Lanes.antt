-- The lanes of a pool.
use Rattle.std.specs.Prelude.{List, map}
use Rattle.fj_lane.specs.Ends.{LaneId, DrainState}

-- the lanes of these drains, in order
abbrev pub lanes_of : {B : Type 0} → List (DrainState B) → List LaneId
lanes_of drains = map (λ d. d.lane) drains
