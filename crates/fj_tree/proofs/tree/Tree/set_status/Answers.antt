use Rattle.std.proofs.Common.{refl}
use Rattle.fj_tree.proofs.Index.Indexing.{index_written}
use Rattle.fj_tree.proofs.Records.Writes.{sound_marked}
use Rattle.fj_tree.proofs.tree.Tree.set_status.Goals as goal

pub invariant_of-self : goal.invariant_of-self
invariant_of-self c = record {
  sound = sound_marked _ c.h.inside.key c.index_mut.result.now _ _ _ c.self.invariant.sound c.index_mut.ensures.value;
  records_fit = c.self.invariant.records_fit;
  numbers_fit = c.self.invariant.numbers_fit;
  indexed = index_written _ _ c.h.inside.key c.index_mut.result.now _ c.self.invariant.indexed c.index_mut.ensures.value refl;
  above = c.self.invariant.above;
}
