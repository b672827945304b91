use Rattle.fj_tree.specs.Closes.{if_open_gone}
use Rattle.fj_tree.proofs.Records.Sweeping.{IsChangedBelow}
use Rattle.fj_tree.proofs.tree.Tree.close_open.Given as goal

-- the records of smaller keys are gone if they were open, and no other is written
abbrev pub invariant-loop-key : goal.invariant-loop-key
invariant-loop-key l = record {
  changed : IsChangedBelow if_open_gone l.fn.self l.self l.key;
}
