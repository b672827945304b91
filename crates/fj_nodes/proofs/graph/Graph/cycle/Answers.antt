use Rattle.std.specs.Prelude.{slice_index}
use Rattle.std.proofs.Common.{arith}
use Rattle.fj_nodes.proofs.graph.Graph.cycle.Goals as goal

pub returns-clause-none : goal.returns-clause-none
returns-clause-none c = (slice_index c.in_ok-ranks.ranks.items, λ n lt. c.loop-number.invariant n (let end = c.loop-number-test.false in let all = c.count-number-end.ensures in omega arith))
