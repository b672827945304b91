use Rattle.std.proofs.Common.{rules, ◌≡◌, codes, true}
use Rattle.clap.specs.Simple.{on_top}
use Rattle.clap.specs.Words.{app_of, new_app}
use Rattle.fj_arguments.proofs.commands.program.Goals as goal

pub returns : goal.returns
returns c =
    let is : app_of c.subcommand_required-program.result ≡ on_top (λ top. record top { has_version = true; subcommand_required = true }) (new_app (codes "fj")) = search rules in
    c.with_plain.ensures _ is
