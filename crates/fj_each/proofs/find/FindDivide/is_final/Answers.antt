use Rattle.std.proofs.Common.{◌∙◌, sym}
use Rattle.fj_jobs.proofs.Finals.{some_is_final}
use Rattle.fj_each.proofs.find.FindDivide.is_final.Goals as goal

pub returns-clause-last : goal.returns-clause-last
returns-clause-last g c = λ e. some_is_final c.args.value.now (sym c.is_some.ensures ∙ e)
