use Rattle.fj_tree.proofs.Index.Indexing.{index_written}
use Rattle.fj_tree.proofs.Records.Writes.{arrived_number, sound_arrived}
use Rattle.fj_tree.proofs.tree.Tree.arrive.Goals as goal

pub invariant_of-self : goal.invariant_of-self
invariant_of-self c = record {
  sound = rw c.arrive.ensures.arrived (sound_arrived _ c.h.inside.key c.index_mut.result.now c.arrive.result c.self.invariant.sound c.index_mut.ensures.value);
  records_fit = c.self.invariant.records_fit;
  numbers_fit = c.self.invariant.numbers_fit;
  indexed = rw c.arrive.ensures.arrived (index_written _ _ c.h.inside.key c.index_mut.result.now _ c.self.invariant.indexed c.index_mut.ensures.value (arrived_number c.arrive.result c.index_mut.result.now));
  above = c.self.invariant.above;
}
