use Rattle.std.proofs.Common.{rules}
use Rattle.fj_lane.proofs.Kept.{merges, learns}
use Rattle.fj_lane.proofs.rest.meet.Goals as goal

pub absorb-requires-clause-rule : goal.absorb-requires-clause-rule
absorb-requires-clause-rule g c = merges _ _ _ _ c.feed.invariant.may_feed c.drain.invariant.may_drain

pub len_as-requires : goal.len_as-requires
len_as-requires g c = learns _ _ (search rules) (search rules)
