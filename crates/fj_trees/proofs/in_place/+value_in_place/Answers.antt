use Rattle.std.proofs.Common.{◌≤◌, arith}
use Rattle.fj_trees.specs.Families.{IsChild}
use Rattle.fj_trees.proofs.Children.{parent_below}
use Rattle.fj_trees.proofs.in_place.+value_in_place.Goals as goal

pub value_in_place-value-requires : goal.value_in_place-value-requires
value_in_place-value-requires t c =
    let child : IsChild c.args.family.now c.loop-tally.tally.node c.in-Some.child × (c.loop-tally.tally.weight ≤ c.in-Some.child) = rw c.in-Some.is at c.loop-tally.invariant.0.child in
    let below = parent_below c.args.family.now _ _ c.new-tally.ensures.tree.0 child.0 in
    let within = child.0.0 in
    let here = c.loop-tally.invariant.1 in
    (omega arith, within)
