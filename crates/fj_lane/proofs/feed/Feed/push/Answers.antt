use Rattle.fj_lane.proofs.Kept.{feeds}
use Rattle.fj_lane.proofs.feed.Feed.push.Goals as goal

pub push_as-requires-clause-pushes : goal.push_as-requires-clause-pushes
push_as-requires-clause-pushes g c = feeds _ _ _ c.self.invariant.may_feed
