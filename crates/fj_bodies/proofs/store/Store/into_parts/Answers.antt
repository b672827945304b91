use Rattle.std.proofs.Common.{ap}
use Rattle.fj_slots.specs.Shelves.{entries}
use Rattle.fj_bodies.proofs.store.Store.into_parts.Goals as goal

pub returns-clause-results : goal.returns-clause-results
returns-clause-results g c = ap (λ s. entries s.results) c.self.view_is

pub returns-clause-complete : goal.returns-clause-complete
returns-clause-complete g c = rw (← c.self.view_is) c.self.invariant.complete

pub returns-clause-rests : goal.returns-clause-rests
returns-clause-rests g c = rw (← c.self.view_is) c.self.invariant.rests
