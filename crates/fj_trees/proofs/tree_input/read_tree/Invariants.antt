use Rattle.std.proofs.Common.{ℕ, List}
use Rattle.std.specs.Io.KnownBytes.{Consumes}
use Rattle.fj_streams.specs.Calls.{GoesOn}
use Rattle.fj_trees.specs.TreeReaders.{IsAt}
use Rattle.fj_trees.proofs.tree_input.read_tree.Given as goal

-- what was read so far is kept, and no read failed
abbrev pub invariant-loop-reads : goal.invariant-loop-reads
invariant-loop-reads g l =
    ((b : List ℕ) × Consumes (g.R.Source.remaining l.fn.r) (g.R.Source.remaining l.r) b × IsAt b l.reader)
    × GoesOn (g.R.Source.calls l.fn.r) (g.R.Source.calls l.r) l._reads
