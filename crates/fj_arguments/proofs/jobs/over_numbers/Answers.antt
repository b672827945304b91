use Rattle.std.proofs.Common.{ap, ap₂, subst}
use Rattle.clap.specs.Words.{with_rule}
use Rattle.fj_arguments.specs.Options.{Makes}
use Rattle.fj_arguments.proofs.jobs.over_numbers.Goals as goal

pub returns-clause-app : goal.returns-clause-app
returns-clause-app c = λ line is.
    let from = ap (with_rule line) c.required.ensures.rule in
    let to = ap₂ with_rule from c.required-2.ensures.rule in
    subst (Makes c.with_option.result) (ap₂ with_rule to c.defaulted.ensures.rule)
    (c.with_option.ensures.app _ (c.with_option-with_to.ensures.app _ (c.with_option-with_from.ensures.app line is)))
