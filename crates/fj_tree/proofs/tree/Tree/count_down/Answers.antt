use Rattle.std.proofs.Common.{arith, refl}
use Rattle.fj_tree.proofs.Index.Indexing.{index_written}
use Rattle.fj_tree.proofs.Records.Writes.{sound_written}
use Rattle.fj_tree.proofs.tree.Tree.count_down.Goals as goal

pub invariant_of-self : goal.invariant_of-self
invariant_of-self c =
    let old = (c.self.invariant.sound).each c.h.inside.key c.index_mut.result.now c.index_mut.ensures.value in record {
      sound = sound_written _ c.h.inside.key c.index_mut.result.now _ c.self.invariant.sound c.index_mut.ensures.value
          (record { number = old.number; parent = old.parent; pending = omega (arith, old.pending); children = old.children }) refl refl refl;
      records_fit = c.self.invariant.records_fit;
      numbers_fit = c.self.invariant.numbers_fit;
      indexed = index_written _ _ c.h.inside.key c.index_mut.result.now _ c.self.invariant.indexed c.index_mut.ensures.value refl;
      above = c.self.invariant.above;
    }
