use Rattle.std.proofs.Common.{◌≡◌, ◌∙◌, ap, sym, Some, None}
use Rattle.std.specs.Option.{option_map}
use Rattle.clap.specs.Words.{found_of}
use Rattle.clap.proofs.WalkLemmas.{first_value-rows}
use Rattle.std.specs.Prelude.{codes}
use Rattle.fj_arguments.proofs.given.read_view_name.Goals as goal

pub returns-in-Some-clause-given : goal.returns-in-Some-clause-given
returns-in-Some-clause-given c =
    let found = sym (first_value-rows (found_of c.args.matches.now) (codes "as")) ∙ sym c.get_str.ensures in
    (_, found ∙ ap (option_map (λ s. s.now)) c.in-Some.is, c.view_named.ensures)

pub returns-in-None-clause-none : goal.returns-in-None-clause-none
returns-in-None-clause-none c = λ name gives.
    let found = sym (first_value-rows (found_of c.args.matches.now) (codes "as")) ∙ sym c.get_str.ensures in
    let none : None ≡ Some gives.0 = sym (found ∙ ap (option_map (λ s. s.now)) c.in-None.is) ∙ gives.1 in
    absurd cc
