use Rattle.std.proofs.Common.{ap, ◌∙◌, subst}
use Rattle.fj_body.specs.Stores.{HasResults}
use Rattle.fj_calls.specs.Cores.{CoreState}
use Rattle.fj_slots.specs.Shelves.{entries}
use Rattle.fj_wake.proofs.waking_core.WakingCoreCoreMaking.into_remains.Goals as goal

pub returns-clause-results : goal.returns-clause-results
returns-clause-results g c = c.into_remains.ensures.results ∙ ap (λ (s : CoreState g.row.B.Denot g.row.B-Key.Denot g.row.B-Out.Denot). entries s.store.results) c.self.view_is

pub returns-clause-complete : goal.returns-clause-complete
returns-clause-complete g c =
    subst (λ (s : CoreState g.row.B.Denot g.row.B-Key.Denot g.row.B-Out.Denot). HasResults s.store.past (entries s.store.results) s.store.taken) c.self.view_is c.into_remains.ensures.complete
