use Rattle.std.proofs.Common.{◌≡◌, ◌∙◌, sym, arith}
use Rattle.fj_each.proofs.Searches.{nothing_in, none_with, found_at}
use Rattle.fj_each.proofs.find.first_in.Goals as goal

pub loop-place-init : goal.loop-place-init
loop-place-init g c = nothing_in (g.P.Wanted.wants c.args.wanted.now) c.args.items.now c.args.block.from

pub loop-place-preserved : goal.loop-place-preserved
loop-place-preserved g c =
    none_with (g.P.Wanted.wants c.args.wanted.now) c.args.items.now c.args.block.from c.loop-place.place c.index-items-place.result c.loop-place.auto.place
    (omega (arith, c.loop-place-test.true, c.requires)) c.index-items-place.is (sym c.is_wanted.ensures ∙ c.if-is_wanted.false) c.loop-place.invariant

pub returns-then-is_wanted : goal.returns-then-is_wanted
returns-then-is_wanted g c =
    sym (found_at (g.P.Wanted.wants c.args.wanted.now) c.args.items.now c.args.block.from c.loop-place.place c.args.block.to c.index-items-place.result c.loop-place.auto.place
    c.loop-place-test.true c.requires c.index-items-place.is (sym c.is_wanted.ensures ∙ c.if-is_wanted.true) c.loop-place.invariant)

pub returns : goal.returns
returns g c =
    let all : c.loop-place.place ≡ c.args.block.to = omega (arith, c.loop-place.auto.place-end c.args.block.ordered, c.loop-place-test.false) in
    sym (rw all at c.loop-place.invariant)
