use Rattle.std.proofs.Common.{◌∙◌}
use Rattle.fj_ledger.proofs.Histories.Quiet.{queued_is}
use Rattle.fj_ledger.proofs.ledger.Ledger.queued.Goals as goal

pub returns : goal.returns
returns c =
    let holds = c.self.invariant.holds in
    rw (← c.self.view_is) (c.total.ensures ∙ queued_is c.self.inside.limits c.self.inside.log.events c.self.inside.queues holds.queues_kept)
