use Rattle.std.proofs.Common.{codes, subst}
use Rattle.clap.specs.Words.{new_app, with_rule}
use Rattle.fj_arguments.specs.Options.{Makes, with_function, with_range}
use Rattle.fj_arguments.proofs.jobs.find.Goals as goal

pub returns-clause-app : goal.returns-clause-app
returns-clause-app c =
    subst (λ rule. Makes c.with_option.result (with_rule (with_function (with_range (new_app (codes "find")))) rule)) c.required.ensures.rule
    (c.with_option.ensures.app _ (c.of_function.ensures.app _ (c.over_range.ensures.app _ c.plain-find.ensures.app)))
