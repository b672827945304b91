use Rattle.std.proofs.Common.{◌≡◌, take}
use Rattle.ex_loop.specs.Sums.{wrapped_sum}
use Rattle.ex_loop.proofs.sum.SumReduceU32.map.Given as goal

-- the sum of the items so far
abbrev pub invariant-loop-item : goal.invariant-loop-item
invariant-loop-item l = l.sum ≡ wrapped_sum (take l.item-index l.items)
