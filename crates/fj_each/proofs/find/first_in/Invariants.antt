use Rattle.std.proofs.Common.{◌≡◌, None}
use Rattle.fj_each.specs.Firsts.{first_in}
use Rattle.fj_each.proofs.find.first_in.Given as goal

-- none so far is wanted
abbrev pub invariant-loop-place : goal.invariant-loop-place
invariant-loop-place g l = first_in (g.P.Wanted.wants l.wanted) l.items l.fn.block.from l.place ≡ None
