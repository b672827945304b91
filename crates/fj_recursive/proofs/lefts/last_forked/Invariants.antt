use Rattle.std.proofs.Common.{◌≡◌, ◌≤◌, vec_len}
use Rattle.fj_recursive.specs.Asks.{forked_in}
use Rattle.fj_recursive.proofs.lefts.last_forked.Given as goal

abbrev pub invariant-loop-left : goal.invariant-loop-left
invariant-loop-left g l = (forked_in l.lefts.items ≡ forked_in l.fn.lefts.items) × (vec_len l.lefts ≤ vec_len l.fn.lefts)

abbrev pub decreases-loop-left : goal.decreases-loop-left
decreases-loop-left g l = vec_len l.lefts
