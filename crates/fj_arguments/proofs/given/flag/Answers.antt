use Rattle.std.proofs.Common.{Bool, sym, subst}
use Rattle.clap.specs.Words.{found_of, rows_of}
use Rattle.fj_arguments.specs.Given.{GivesFlag}
use Rattle.fj_arguments.proofs.Flags.{gives_flag}
use Rattle.fj_arguments.proofs.given.flag.Goals as goal

pub returns : goal.returns
returns c =
    subst (λ (b : Bool). GivesFlag (rows_of (found_of c.args.matches.now)) c.args.name.now b) (sym c.unwrap_or.ensures)
    (gives_flag _ (found_of c.args.matches.now) c.args.name.now c.get_one.result c.get_one.ensures.none c.get_one.ensures.value)
