use Rattle.std.proofs.Common.{rules, ◌≡◌, subst}
use Rattle.fj_each.proofs.Rows.{in_a_row}
use Rattle.fj_each.proofs.part.PartTryDivide.combine.Goals as goal

pub returns-in-Ok-clause-gives : goal.returns-in-Ok-clause-gives
returns-in-Ok-clause-gives g c =
    let left = c.args.left in
    let right = c.args.right in
    let meet : left.0.to ≡ right.0.from = search rules in
    let P : _ → Type 0 = λ xs. Prim.∥◌∥₁ (g.M.Reduce.gives xs c.in-Ok.out) in
    subst P (in_a_row g.N.Items.items left.0.from left.0.to right.0.to left.0.ordered (rw meet right.0.ordered)) (c.in-Ok.ensures _ _ c.requires.left (rw meet c.requires.right))
