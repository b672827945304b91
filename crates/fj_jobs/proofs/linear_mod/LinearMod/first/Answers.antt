use Rattle.std.proofs.Common.{◌≡◌, ◌∙◌, None, arith, sym}
use Rattle.fj_jobs.proofs.Residues.{hit_found, hit_is_first}
use Rattle.fj_jobs.proofs.linear_mod.LinearMod.first.Goals as goal

pub returns-then-at-want-clause-value : goal.returns-then-at-want-clause-value
returns-then-at-want-clause-value c =
    sym (hit_found _ _ _ _ _ _ _ c.loop-i-test.true c.loop-i.invariant (sym c.at.ensures ∙ c.if-at-want.true))

pub returns-then-at-want-clause-first : goal.returns-then-at-want-clause-first
returns-then-at-want-clause-first c =
    hit_is_first _ _ _ _ _ _ _ (sym (hit_found _ _ _ _ _ _ _ c.loop-i-test.true c.loop-i.invariant (sym c.at.ensures ∙ c.if-at-want.true)))

pub returns-clause-first : goal.returns-clause-first
returns-clause-first c =
    let all : c.loop-i.i ≡ c.args.numbers.now.count = omega (arith, c.loop-i.auto.i-end, c.loop-i-test.false) in
    hit_is_first _ _ _ _ _ c.args.numbers.now.count None (sym (rw all at c.loop-i.invariant))
