use Rattle.fj_tree.specs.Records.{IsGood}
use Rattle.fj_tree.proofs.Ascents.Passing.{IsPassing}
use Rattle.fj_tree.proofs.tree.Tree.pass_up.Given as goal

-- what is passed and left from here on is what is passed and left at all, and what was passed so far is spent
abbrev pub invariant-loop-how : goal.invariant-loop-how
invariant-loop-how l = record {
  begins : IsGood l.self l.fn.h;
  good : IsGood l.self l.at;
  old_good : IsGood l.fn.self l.at;
  passing : IsPassing l.fn.self l.self l.fn.h l.at l.passed;
}

abbrev pub decreases-loop-how : goal.decreases-loop-how
decreases-loop-how l = l.at.serial
