use Rattle.std.proofs.Common.{rules, ◌≡◌, ◌≤◌, ◌+◌, ◌∙◌, arith, sym, subst, IfOk, length}
use Rattle.fj_each.proofs.Searches.{position_behind, position_between, none_between, none_at_all}
use Rattle.fj_each.proofs.finding.find_first.Goals as goal

pub returns-then-is_worth_a_pool-clause-ok : goal.returns-then-is_worth_a_pool-clause-ok
returns-then-is_worth_a_pool-clause-ok g c =
    let wants = g.P.Wanted.wants c.args.wanted.now in
    let P : _ → Type 0 = λ place. IfOk c.find_rest.result (λ first. first ≡ place) in
    subst P (position_behind wants c.args.items.now c.loop-done.done c.loop-done.invariant.1 c.loop-done.invariant.2) c.find_rest.ensures.ok

pub returns-then-is_some-clause-ok : goal.returns-then-is_some-clause-ok
returns-then-is_some-clause-ok g c =
    let i = c.loop-done.done in
    let j = i + c.min.result in
    let within : j ≤ length c.args.items.now = omega (arith, c.min.ensures, c.loop-done.invariant.1, c.loop-done-test.true) in
    position_between (g.P.Wanted.wants c.args.wanted.now) c.args.items.now i j c.first_in-first.result (omega arith) within c.loop-done.invariant.2 c.first_in-first.ensures
    (sym c.is_some.ensures ∙ c.if-is_some.true)

pub loop-done-preserved : goal.loop-done-preserved
loop-done-preserved g c =
    let i = c.loop-done.done in
    let j = i + c.min.result in
    let within : j ≤ length c.args.items.now = omega (arith, c.min.ensures, c.loop-done.invariant.1, c.loop-done-test.true) in (
      search rules,
      within,
      none_between (g.P.Wanted.wants c.args.wanted.now) c.args.items.now i j c.first_in-first.result (omega arith) within c.loop-done.invariant.2 c.first_in-first.ensures
          (sym c.is_some.ensures ∙ c.if-is_some.false),
    )

pub returns-clause-ok : goal.returns-clause-ok
returns-clause-ok g c =
    let all : c.loop-done.done ≡ length c.args.items.now = omega (arith, c.loop-done.invariant.1, c.loop-done-test.false) in
    none_at_all (g.P.Wanted.wants c.args.wanted.now) c.args.items.now c.loop-done.done all c.loop-done.invariant.2
