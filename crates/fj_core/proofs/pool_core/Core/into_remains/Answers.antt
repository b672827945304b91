use Rattle.std.proofs.Common.{◌∙◌, ap, subst}
use Rattle.fj_slots.specs.Shelves.{entries}
use Rattle.fj_body.specs.Stores.{HasResults}
use Rattle.fj_core.proofs.pool_core.Core.into_remains.Goals as goal

pub returns-clause-results : goal.returns-clause-results
returns-clause-results g c = c.into_parts-machine.ensures.results ∙ ap (λ s. entries s.store.results) c.self.view_is

pub returns-clause-complete : goal.returns-clause-complete
returns-clause-complete g c = subst (λ s. HasResults s.store.past (entries s.store.results) s.store.taken) c.self.view_is c.into_parts-machine.ensures.complete
