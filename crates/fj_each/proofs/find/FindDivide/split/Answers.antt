use Rattle.std.proofs.Common.{◌≤◌, length, arith, subst}
use Rattle.std.proofs.Math.Logic.{∥∥₁_elim}
use Rattle.std.specs.Coded.{le_prop}
use Rattle.fj_each.proofs.Searches.{first_halves}
use Rattle.fj_each.proofs.find.FindDivide.split.Goals as goal

pub returns-in-Some-clause-halves : goal.returns-in-Some-clause-halves
returns-in-Some-clause-halves g c =
    let part = c.args.self in
    let all = g.N.Search.items in
    let within : part.block.to ≤ length all = ∥∥₁_elim part.named le_prop (λ named. subst (λ xs. part.block.to ≤ length xs) named part.within) in
    let ends = c.in-Some.ensures.ends in
    let some = c.in-Some.ensures.some in
    let middle = c.in-Some.right.from in
    rw (c.of_block.ensures, c.of_block-in-Some.ensures, ends.0, ends.1, ends.2)
    (first_halves g.N.Search.wants all part.block.from middle part.block.to (omega (arith, some.0)) (omega (arith, some.1)) within)
