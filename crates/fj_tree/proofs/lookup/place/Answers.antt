use Rattle.std.proofs.Common.{arith, sym, ◌∙◌}
use Rattle.std.proofs.lemmas.Cmp.{ranked}
use Rattle.fj_tree.proofs.Index.Halving.{halved_above, halved_below}
use Rattle.fj_tree.proofs.lookup.place.Goals as goal

pub loop-low-preserved-in-Less : goal.loop-low-preserved-in-Less
loop-low-preserved-in-Less c =
    let small = ranked _ _ _ (sym c.in-Less.is ∙ c.probe.ensures.compared) in
    rw c.probe.ensures.counted (halved_above _ c.len-high.ensures.rising _ c.loop-low.low c.loop-low.high _ _ _ c.loop-low.invariant (omega arith) (omega (arith, c.loop-low-test.true)) small (omega arith))

pub loop-low-preserved : goal.loop-low-preserved
loop-low-preserved c =
    let large = ranked _ _ _ (sym c.in-Greater.is ∙ c.probe.ensures.compared) in
    rw c.probe.ensures.counted (halved_below _ c.len-high.ensures.rising _ c.loop-low.low c.loop-low.high _ _ _ c.loop-low.invariant (omega arith) (omega (arith, c.loop-low-test.true)) large (omega arith))
