-- The lanes of a pool stay.
use Rattle.std.specs.Prelude.{◌≡◌}
use Rattle.fj_calls.specs.Cores.{CoreState}
use Rattle.fj_submitter.specs.Lanes.{lanes_of}

-- the drains are of the same lanes
abbrev pub KeepsLanes : {B K O : Type 0} → CoreState B K O → CoreState B K O → Type 0
KeepsLanes old new = lanes_of new.lanes ≡ lanes_of old.lanes
