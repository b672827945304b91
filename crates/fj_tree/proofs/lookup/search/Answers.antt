use Rattle.std.proofs.Common.{arith, sym, ◌∙◌}
use Rattle.fj_tree.proofs.Index.Listing.{listed_alone}
use Rattle.fj_tree.proofs.lookup.search.Goals as goal

pub returns-clause-only : goal.returns-clause-only
returns-clause-only c = λ other listed. listed_alone _ c.place.ensures.rising c.in_ok-i.i c.args.serial other c.in_ok-i.ensures.found listed ∙ sym c.key.ensures

pub returns-in_err-i-clause-few : goal.returns-in_err-i-clause-few
returns-in_err-i-clause-few c = λ small. c.place.ensures.halves 13 (omega arith)

pub returns-clause-few : goal.returns-clause-few
returns-clause-few c = λ small. c.place.ensures.halves 13 (omega arith)
