use Rattle.std.proofs.Common.{ap, ap₂, subst}
use Rattle.clap.specs.Words.{with_rule}
use Rattle.fj_arguments.specs.Options.{Makes}
use Rattle.fj_arguments.proofs.jobs.of_function.Goals as goal

pub returns-clause-app : goal.returns-clause-app
returns-clause-app c = λ line is.
    let mul = ap (with_rule line) c.required.ensures.rule in
    let add = ap₂ with_rule mul c.required-2.ensures.rule in
    subst (Makes c.with_option.result) (ap₂ with_rule add c.required-3.ensures.rule)
    (c.with_option.ensures.app _ (c.with_option-with_add.ensures.app _ (c.with_option-with_mul.ensures.app line is)))
