use Rattle.std.proofs.Common.{◌≡◌, ◌≤◌, map, vec_len}
use Rattle.fj_recursive.specs.Asks.{forked_in}
use Rattle.fj_recursive.specs.Recursions.{left_value, tail_value}
use Rattle.fj_recursive.proofs.lefts.fold_done.Given as goal

abbrev pub invariant-loop-left : goal.invariant-loop-left
invariant-loop-left g l =
    (tail_value g.J.Divide.combined (map (left_value g.J.Divide.value) l.fn.lefts.items) l.fn.tail ≡ tail_value g.J.Divide.combined (map (left_value g.J.Divide.value) l.lefts.items) l.value)
    × (vec_len l.lefts ≤ vec_len l.fn.lefts)
    × (forked_in l.fn.lefts.items ≡ forked_in l.lefts.items)

abbrev pub decreases-loop-left : goal.decreases-loop-left
decreases-loop-left g l = vec_len l.lefts
