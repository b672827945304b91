use Rattle.std.proofs.Common.{ap, ap₂, subst}
use Rattle.clap.specs.Words.{with_rule}
use Rattle.fj_arguments.specs.Options.{Makes, with_numbers}
use Rattle.fj_arguments.proofs.jobs.over_range.Goals as goal

pub returns-clause-app : goal.returns-clause-app
returns-clause-app c = λ line is.
    let workers = ap (with_rule (with_numbers line)) c.defaulted.ensures.rule in
    subst (Makes c.with_option.result) (ap₂ with_rule workers c.flag.ensures.rule)
    (c.with_option.ensures.app _ (c.with_option-with_workers.ensures.app _ (c.over_numbers.ensures.app line is)))
