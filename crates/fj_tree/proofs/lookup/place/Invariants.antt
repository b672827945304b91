use Rattle.std.proofs.Common.{◌-◌}
use Rattle.fj_tree.proofs.Index.Halving.{Halved}
use Rattle.fj_tree.proofs.lookup.place.Given as goal

abbrev pub invariant-loop-low : goal.invariant-loop-low
invariant-loop-low l = Halved l.kept.pairs l.serial l.low l.high l.fn.probes l.probes

abbrev pub decreases-loop-low : goal.decreases-loop-low
decreases-loop-low l = l.high - l.low
