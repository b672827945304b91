use Rattle.std.proofs.Common.{codes, subst}
use Rattle.clap.specs.Words.{new_app, with_rule}
use Rattle.fj_arguments.specs.Options.{Makes, with_window}
use Rattle.fj_arguments.proofs.commands.view.Goals as goal

pub returns-clause-app : goal.returns-clause-app
returns-clause-app c =
    subst (λ rule. Makes c.with_option.result (with_rule (with_window (new_app (codes "view"))) rule)) c.file.ensures.rule
    (c.with_option.ensures.app _ (c.of_window.ensures.app _ c.plain-view.ensures.app))
