use Rattle.fj_tree.specs.Records.{IsGood}
use Rattle.fj_tree.proofs.Ascents.Paths.{IsBelowRoot}
use Rattle.fj_tree.proofs.tree.Tree.root.Given as goal

-- the root is the same from here
abbrev pub invariant-loop-up : goal.invariant-loop-up
invariant-loop-up l = record {
  good : IsGood l.self l.at;
  below : IsBelowRoot l.self l.fn.h l.at;
}

abbrev pub decreases-loop-up : goal.decreases-loop-up
decreases-loop-up l = l.at.serial
