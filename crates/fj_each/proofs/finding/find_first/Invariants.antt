use Rattle.std.proofs.Common.{length, ◌-◌, ◌≡◌, ◌≤◌}
use Rattle.std.specs.Prelude.{None}
use Rattle.fj_each.specs.Firsts.{first_in}
use Rattle.fj_each.proofs.finding.find_first.Given as goal

-- no item so far is wanted
abbrev pub invariant-loop-done : goal.invariant-loop-done
invariant-loop-done g l = (1 ≤ l.size) × (l.done ≤ length l.items) × (first_in (g.P.Wanted.wants l.wanted) l.items 0 l.done ≡ None)

abbrev pub decreases-loop-done : goal.decreases-loop-done
decreases-loop-done g l = length l.items - l.done

-- the items that are searched, and what is wanted of them
abbrev pub ghosts-find_rest : goal.ghosts-find_rest
ghosts-find_rest g a = record { items = a.items.now; wants = g.P.Wanted.wants a.wanted.now }
