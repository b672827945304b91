use Rattle.std.proofs.Common.{subst}
use Rattle.fj_calls.proofs.Others.{acts_others}
use Rattle.fj_guarded.specs.Keeping.{KeepsOthers}
use Rattle.fj_guarded.proofs.Workers.{acts_at}
use Rattle.fj_guarded.proofs.guarded.Guarded.act.Goals as goal

pub returns-clause-keeps : goal.returns-clause-keeps
returns-clause-keeps g c =
    subst (λ s. KeepsOthers c.args.hand.now.worker s.store.past (g.C.CoreView.state c.act.new.self).store.past) c.self.view_is
    (record { pool = c.act.ensures.stays.past.pool; hands = acts_others g.B.Body.key_of _ _ _ _ c.args.ask c.act.result c.machine-run.ensures.run c.act.ensures.acts })

pub returns-clause-worker : goal.returns-clause-worker
returns-clause-worker g c = acts_at g.B.Body.key_of _ _ _ _ c.args.ask c.act.result c.act.ensures.acts
