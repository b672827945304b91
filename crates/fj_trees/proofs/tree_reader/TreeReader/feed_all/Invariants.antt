use Rattle.std.proofs.Common.{ℕ, List, ◌++◌, take}
use Rattle.fj_trees.specs.TreeReaders.{IsAt}
use Rattle.fj_trees.proofs.tree_reader.TreeReader.feed_all.Given as goal

abbrev pub invariant-loop-byte : goal.invariant-loop-byte
invariant-loop-byte l = (b : List ℕ) → IsAt b l.fn.self → IsAt (b ++ take l.byte-index l.bytes) l.self
