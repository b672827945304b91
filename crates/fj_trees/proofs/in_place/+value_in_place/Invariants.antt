use Rattle.std.proofs.Common.{◌≡◌, ◌-◌, length}
use Rattle.fj_trees.specs.Tallies.{IsTally, numbers_from}
use Rattle.fj_trees.proofs.in_place.+value_in_place.Given as goal

-- a child has a larger number
abbrev pub decreases-value_in_place : goal.decreases-value_in_place
decreases-value_in_place l = length l.family.now - l.node

abbrev pub invariant-loop-tally : goal.invariant-loop-tally
invariant-loop-tally l = IsTally l.family l.tally × (l.tally.node ≡ l.node)

abbrev pub decreases-loop-tally : goal.decreases-loop-tally
decreases-loop-tally l = numbers_from (length l.family) l.tally.child
