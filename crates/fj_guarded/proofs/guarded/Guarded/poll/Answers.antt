use Rattle.std.proofs.Common.{subst}
use Rattle.fj_calls.proofs.Others.{polls_others}
use Rattle.fj_guarded.specs.Keeping.{KeepsOthers}
use Rattle.fj_guarded.proofs.Workers.{polls_at}
use Rattle.fj_guarded.proofs.guarded.Guarded.poll.Goals as goal

pub returns-clause-keeps : goal.returns-clause-keeps
returns-clause-keeps g c =
    subst (λ s. KeepsOthers c.args.hand.now.worker s.store.past (g.C.CoreView.state c.poll.new.self).store.past) c.self.view_is
    (record { pool = c.poll.ensures.stays.past.pool; hands = polls_others _ _ _ _ c.poll.result c.poll.ensures.polls })

pub returns-clause-worker : goal.returns-clause-worker
returns-clause-worker g c = polls_at _ _ _ _ c.poll.result c.poll.ensures.polls
