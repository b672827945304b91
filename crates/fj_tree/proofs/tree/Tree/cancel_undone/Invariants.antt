use Rattle.fj_tree.specs.Cancels.{if_undone_cancelled}
use Rattle.fj_tree.proofs.Records.Sweeping.{IsChangedBelow}
use Rattle.fj_tree.proofs.tree.Tree.cancel_undone.Given as goal

-- the records of smaller keys are cancelled if they were undone, and no other is written
abbrev pub invariant-loop-key : goal.invariant-loop-key
invariant-loop-key l = record {
  changed : IsChangedBelow if_undone_cancelled l.fn.self l.self l.key;
}
