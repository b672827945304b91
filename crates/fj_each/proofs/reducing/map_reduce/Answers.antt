use Rattle.std.proofs.Common.{rules, arith, ◌≤◌, IfOk, length, subst, ◌+◌}
use Rattle.fj_each.proofs.Rows.{in_a_row, in_all}
use Rattle.fj_each.proofs.reducing.map_reduce.Goals as goal

pub returns-then-is_worth_a_pool-clause-ok : goal.returns-then-is_worth_a_pool-clause-ok
returns-then-is_worth_a_pool-clause-ok g c =
    let items = c.args.items.now in
    let P : _ → Type 0 = λ xs. IfOk c.combined.result (λ out. Prim.∥◌∥₁ (g.M.Reduce.gives xs out)) in
    subst P (in_all items c.loop-done.done c.loop-done.invariant.1) (c.combined.ensures.ok _ _ c.loop-done.invariant.2 c.in_ok-rest.ensures.ok)

pub loop-done-preserved : goal.loop-done-preserved
loop-done-preserved g c =
    let items = c.args.items.now in
    let i = c.loop-done.done in
    let j = i + c.min.result in
    let within : j ≤ length items = omega (arith, c.min.ensures, c.loop-done.invariant.1, c.loop-done-test.true) in
    let P : _ → Type 0 = λ xs. Prim.∥◌∥₁ (g.M.Reduce.gives xs c.in_ok-out-2.out) in
    (search rules, within, subst P (in_a_row items 0 i j (omega arith) (omega arith)) (c.in_ok-out-2.ensures.ok _ _ c.loop-done.invariant.2 c.in_ok-more.ensures.ok))
