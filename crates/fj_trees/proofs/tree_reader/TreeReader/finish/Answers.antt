use Rattle.std.proofs.Common.{rules}
use Rattle.fj_trees.proofs.TreeBytes.{ends_within}
use Rattle.fj_trees.proofs.tree_reader.TreeReader.finish.Goals as goal

pub returns-then-not-is_empty-clause-err : goal.returns-then-not-is_empty-clause-err
returns-then-not-is_empty-clause-err c = λ b at. ends_within _ b _ c.fault.ensures (λ empty. search rules) at
