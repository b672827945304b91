use Rattle.fj_trees.proofs.TreeBytes.{at_next, fault_next}
use Rattle.fj_trees.proofs.tree_reader.TreeReader.feed_all.Goals as goal

pub returns-in-Err-clause-err : goal.returns-in-Err-clause-err
returns-in-Err-clause-err c = λ b after at. fault_next _ b _ after _ _ c.loop-byte-test.true (c.loop-byte.invariant b at) c.in-Err.ensures.err

pub loop-byte-preserved : goal.loop-byte-preserved
loop-byte-preserved c = λ b at. at_next b _ _ _ _ c.loop-byte-test.true (c.loop-byte.invariant b at) c.in-Ok.ensures.goes
