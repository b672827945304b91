use Rattle.std.proofs.Common.{◌∙◌}
use Rattle.fj_recursive.specs.Recursions.{left_value}
use Rattle.fj_recursive.proofs.Tails.{tail_more}
use Rattle.fj_recursive.proofs.recursive.RecursiveState.forked.Goals as goal

pub go_on-requires : goal.go_on-requires
go_on-requires g c = tail_more g.J.Divide.combined (left_value g.J.Divide.value) _ _ c.args.left _ c.push_reserved.ensures.items ∙ c.requires.total
