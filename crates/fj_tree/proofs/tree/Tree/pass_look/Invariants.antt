use Rattle.fj_tree.specs.Records.{IsGood}
use Rattle.fj_tree.proofs.Ascents.Climbing.{HasPassed}
use Rattle.fj_tree.proofs.tree.Tree.pass_look.Given as goal

-- what is passed and left from here on is what is passed and left at all
abbrev pub invariant-loop-how : goal.invariant-loop-how
invariant-loop-how l = record {
  good : IsGood l.self l.at;
  climbs : HasPassed l.self l.fn.h l.at l.passed;
}

abbrev pub decreases-loop-how : goal.decreases-loop-how
decreases-loop-how l = l.at.serial
