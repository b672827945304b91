use Rattle.std.proofs.Common.{◌<◌, ap, sym, ◌∙◌, subst, arith}
use Rattle.fj_rules.specs.Bounds.{queues_in}
use Rattle.fj_rules.specs.Lists.{first_of, last_of}
use Rattle.fj_rules.specs.Runs.{Past}
use Rattle.fj_ledger.specs.declared.queue_end.QueueEnd.{QueueEnd}
use Rattle.fj_ledger.specs.Sources.{queue_of}
use Rattle.fj_ledger.proofs.ledger.Ledger.task_at.Goals as goal
use Rattle.fj_ledger.proofs.ledger.Ledger.task_at.Goals.{After-self}

-- there is such a queue
below : (c : After-self) → queue_of c.args.source < queues_in c.self.inside.limits
below c = subst (λ (p : Past). queue_of c.args.source < queues_in p.pool.limits) (sym c.self.view_is) c.requires

pub oldest-requires : goal.oldest-requires
oldest-requires c =
    let at = (goal.at.oldest-requires c).After-self in
    let inside : c.in-Oldest.q < queues_in c.self.inside.limits = subst (λ (s : QueueEnd). queue_of s < queues_in c.self.inside.limits) c.in-Oldest.is (below at) in
    omega (arith, inside, c.self.invariant.holds.queues_kept.count)

pub newest-requires : goal.newest-requires
newest-requires c =
    let at = (goal.at.newest-requires c).After-self in
    let inside : c.in-Newest.q < queues_in c.self.inside.limits = subst (λ (s : QueueEnd). queue_of s < queues_in c.self.inside.limits) c.in-Newest.is (below at) in
    omega (arith, inside, c.self.invariant.holds.queues_kept.count)

pub returns-in-Oldest : goal.returns-in-Oldest
returns-in-Oldest c =
    let at = (goal.at.returns-in-Oldest c).After-self in
    let inside : c.in-Oldest.q < queues_in c.self.inside.limits = subst (λ (s : QueueEnd). queue_of s < queues_in c.self.inside.limits) c.in-Oldest.is (below at) in
    rw (c.in-Oldest.is, ← c.self.view_is) (c.oldest.ensures ∙ ap first_of (c.self.invariant.holds.queues_kept.each c.in-Oldest.q inside))

pub returns-in-Newest : goal.returns-in-Newest
returns-in-Newest c =
    let at = (goal.at.returns-in-Newest c).After-self in
    let inside : c.in-Newest.q < queues_in c.self.inside.limits = subst (λ (s : QueueEnd). queue_of s < queues_in c.self.inside.limits) c.in-Newest.is (below at) in
    rw (c.in-Newest.is, ← c.self.view_is) (c.newest.ensures ∙ ap last_of (c.self.invariant.holds.queues_kept.each c.in-Newest.q inside))
