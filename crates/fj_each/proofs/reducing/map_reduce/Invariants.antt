use Rattle.std.proofs.Common.{length, ◌-◌, ◌≤◌, slice_range}
use Rattle.fj_each.proofs.reducing.map_reduce.Given as goal

-- what the items so far give
abbrev pub invariant-loop-done : goal.invariant-loop-done
invariant-loop-done g l = (1 ≤ l.size) × (l.done ≤ length l.items) × Prim.∥◌∥₁ (g.M.Reduce.gives (slice_range l.items 0 l.done) l.out)

abbrev pub decreases-loop-done : goal.decreases-loop-done
decreases-loop-done g l = length l.items - l.done

-- the items that are reduced
abbrev pub ghosts-reduce_rest : goal.ghosts-reduce_rest
ghosts-reduce_rest g a = record { items = a.items.now }
