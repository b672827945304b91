use Rattle.std.proofs.Common.{codes, subst}
use Rattle.clap.specs.Words.{new_app, with_rule}
use Rattle.fj_arguments.specs.Options.{Makes}
use Rattle.fj_arguments.proofs.jobs.tree.Goals as goal

pub returns-clause-app : goal.returns-clause-app
returns-clause-app c =
    subst (λ rule. Makes c.with_option.result (with_rule (new_app (codes "tree")) rule)) c.defaulted.ensures.rule
    (c.with_option.ensures.app _ c.plain-tree.ensures.app)
