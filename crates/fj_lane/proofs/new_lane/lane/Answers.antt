use Rattle.std.proofs.Common.{rules}
use Rattle.fj_lane.proofs.Kept.{begins, forks}
use Rattle.fj_lane.proofs.new_lane.lane.Goals as goal

pub fifo_as-requires : goal.fifo_as-requires
fifo_as-requires g c = begins

pub another-pass-requires : goal.another-pass-requires
another-pass-requires g c = forks _ _ (search rules) (search rules)
