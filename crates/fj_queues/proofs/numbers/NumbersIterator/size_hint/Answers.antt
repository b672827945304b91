use Rattle.fj_queues.proofs.Chains.Walks.{len_shown}
use Rattle.std.proofs.Common.{List, ℕ, length, arith, ap}
use Rattle.fj_queues.proofs.numbers.NumbersIterator.size_hint.Goals as goal

pub returns-clause-lower : goal.returns-clause-lower
returns-clause-lower c _ = omega (arith, len_shown c.self.inside.table.now c.self.inside.next c.self.inside.left c.self.invariant, ap (λ (ts : List ℕ). length ts) c.self.view_is)

pub returns-clause-upper : goal.returns-clause-upper
returns-clause-upper c = (tt, omega (arith, len_shown c.self.inside.table.now c.self.inside.next c.self.inside.left c.self.invariant, ap (λ (ts : List ℕ). length ts) c.self.view_is))
