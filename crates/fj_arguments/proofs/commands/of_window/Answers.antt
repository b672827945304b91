use Rattle.std.proofs.Common.{ap, ap₂, subst}
use Rattle.clap.specs.Words.{with_rule}
use Rattle.fj_arguments.specs.Options.{Makes}
use Rattle.fj_arguments.proofs.commands.of_window.Goals as goal

pub returns-clause-app : goal.returns-clause-app
returns-clause-app c = λ line is.
    let named = ap (with_rule line) c.word.ensures.rule in
    let from = ap₂ with_rule named c.defaulted.ensures.rule in
    subst (Makes c.with_option.result) (ap₂ with_rule from c.unbounded.ensures.rule)
    (c.with_option.ensures.app _ (c.with_option-with_from.ensures.app _ (c.with_option-with_as.ensures.app line is)))
