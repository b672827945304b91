use Rattle.std.proofs.Common.{slice_range, subst}
use Rattle.std.proofs.Math.Logic.{∥∥₁_elim, ∥∥₁_prop}
use Rattle.fj_each.proofs.part.PartTryDivide.leaf.Goals as goal

pub returns-in-Ok-clause-gives : goal.returns-in-Ok-clause-gives
returns-in-Ok-clause-gives g c =
    let part = c.args.self.now in
    let P : _ → Type 0 = λ xs. Prim.∥◌∥₁ (g.M.Reduce.gives (slice_range xs part.block.from part.block.to) c.in-Ok.out) in
    ∥∥₁_elim part.named ∥∥₁_prop (λ named. subst P named c.in-Ok.ensures)
